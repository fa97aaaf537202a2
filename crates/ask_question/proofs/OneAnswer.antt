-- No second answer fits the promises of this crate.
use mathlib.Core.Path.{◌≡◌, sym, ◌∙◌}
use mathlib.Core.Bool.{Bool}
use mathlib.Core.List.{List}
use Prim.Native.Nat.{ℕ}
use lib.ListN.{length, get_or}
use Rattle.query.specs.declared.Query.{Query}
use Rattle.ask_question.specs.declared.Part.{Part}
use Rattle.ask_question.specs.declared.Parts.{Parts}
use Rattle.ask_question.specs.Parts.{checks_types, parts_of, items_of, inside_with}
use Rattle.ask_question.specs.Asked.{query_with, bytes_fit, bytes_after, ends_after, ends_count}

-- `is_inside`
pub is-inside-one : (ws : List ℕ) (ps : Parts) {r s : Bool} → r ≡ inside_with ws ps → s ≡ inside_with ws ps → r ≡ s
is-inside-one ws ps e f = e ∙ sym f

-- `find_parts`
pub find-parts-one : (ws : List ℕ) {r s : Parts} → r ≡ parts_of ws → s ≡ parts_of ws → r ≡ s
find-parts-one ws e f = e ∙ sym f

-- `checks_types`
pub checks-types-one : (task : ℕ) {r s : Bool} → r ≡ checks_types task → s ≡ checks_types task → r ≡ s
checks-types-one task e f = e ∙ sym f

-- `items`
pub items-one : (ws : List ℕ) (p : Part) {r s : List ℕ} → r ≡ items_of ws p → s ≡ items_of ws p → r ≡ s
items-one ws p e f = e ∙ sym f

-- `word_at`
pub word-at-one : (ws : List ℕ) (at : ℕ) {r s : ℕ} → r ≡ get_or ws at 0 → s ≡ get_or ws at 0 → r ≡ s
word-at-one ws at e f = e ∙ sym f

-- `read_query`
pub read-query-one : (ws : List ℕ) (ps : Parts) {r s : Query} → r ≡ query_with ws ps → s ≡ query_with ws ps → r ≡ s
read-query-one ws ps e f = e ∙ sym f

-- `read_bytes`: the answer, and the buffer after it
pub read-bytes-one : (ws buffer : List ℕ) {r s : Bool} {b c : List ℕ} → r ≡ bytes_fit ws (length buffer) → s ≡ bytes_fit ws (length buffer)
    → b ≡ bytes_after ws buffer → c ≡ bytes_after ws buffer → (r ≡ s) × (b ≡ c)
read-bytes-one ws buffer e f g h = (e ∙ sym f, g ∙ sym h)

-- `read_ends`: the buffer after it
pub read-ends-one : (ws : List ℕ) (room : ℕ) {b c : List ℕ} → b ≡ ends_after ws room → c ≡ ends_after ws room → b ≡ c
read-ends-one ws room e f = e ∙ sym f

-- `count_ends`
pub count-ends-one : (given constants room : ℕ) {r s : ℕ} → r ≡ ends_count given constants room → s ≡ ends_count given constants room → r ≡ s
count-ends-one given constants room e f = e ∙ sym f
