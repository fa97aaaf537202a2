-- Scans written as words, five a scan: one after the other they are the words of them all.
use mathlib.Core.Path.{◌≡◌, refl, sym, ap, ◌∙◌}
use mathlib.Core.List.{List, [], ◌∷◌, ◌++◌}
use Prim.Native.Nat.{ℕ, suc, ◌+◌, ◌*◌, ◌<◌, ◌≤◌}
use native.Mathlib.Omega.{arith}
use native.Mathlib.Numerals.{add-one}
use lib.ListN.{length, get_or, take, drop, set, length-append}
use lib.Seq.{sets-eq, take-suc, take_at, length-take-le}
use Rattle.plan.specs.declared.Scan.{Scan}
use Rattle.plan.specs.Plan.{zero_scan}
use Rattle.eval.specs.Words.{laid_words, words_of}

-- five words, one after the other
pub write-five : (l : List ℕ) (at a b c d e : ℕ) → at + laid_words ≤ length l
    → set (set (set (set (set l at a) (at + 1) b) (at + 2) c) (at + 3) d) (at + 4) e ≡ take at l ++ (a ∷ b ∷ c ∷ d ∷ e ∷ []) ++ drop (at + laid_words) l
write-five l at a b c d e h =
    let one : at + 1 ≡ suc at = omega arith in
    let two : at + 2 ≡ suc (suc at) = omega arith in
    let three : at + 3 ≡ suc (suc (suc at)) = omega arith in
    let four : at + 4 ≡ suc (suc (suc (suc at))) = omega arith in
    rw (one, two, three, four) (sets-eq (a ∷ b ∷ c ∷ d ∷ e ∷ []) l at h)

words_append : (ss rest : List Scan) → words_of (ss ++ rest) ≡ words_of ss ++ words_of rest
unfolding words_of
words_append [] rest = refl
words_append (s ∷ ss) rest = rw (words_append ss rest)

words-one : (s : Scan) → length (words_of (s ∷ [])) ≡ laid_words
unfolding words_of
words-one s = refl

-- one scan more
pub write-more : (scans : List Scan) (ws vs : List ℕ) (i : ℕ) → i < length scans → laid_words * i + laid_words ≤ length ws
    → take (laid_words * i) ws ≡ words_of (take i scans)
    → vs ≡ take (laid_words * i) ws ++ words_of (get_or scans i zero_scan ∷ []) ++ drop (laid_words * i + laid_words) ws
    → take (laid_words * (i + 1)) vs ≡ words_of (take (i + 1) scans)
write-more scans ws vs i l h done e =
    let s = get_or scans i zero_scan in
    let front = take (laid_words * i) ws ++ words_of (s ∷ []) in
    let long : length front ≡ laid_words * (i + 1) =
    length-append (take (laid_words * i) ws) (words_of (s ∷ [])) ∙ rw (length-take-le (laid_words * i) ws (omega arith), words-one s) (omega arith) in
    ap (take (laid_words * (i + 1))) e ∙ take_at front _ (laid_words * (i + 1)) long ∙
    rw (done, add-one i, take-suc scans i zero_scan l) (sym (words_append (take i scans) (s ∷ [])))
