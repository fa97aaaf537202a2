-- What `build` answers, from the heap's check and what is filled.
use mathlib.Core.Path.{◌≡◌}
use mathlib.Core.Bool.{not, ◌||◌}
use mathlib.Core.List.{List}
use Prim.Native.Nat.{ℕ, ◌%◌, ◌≤◌}
use borrow.Author.Tests.{ltb-false}
use lib.ListN.{length}
use lib.Dec.{ltb, eqb}
use Rattle.refusal.specs.Verdict.{Verdict}
use Rattle.std.specs.Prelude.{Ok}
use Rattle.refusal.specs.Verdict.{refuse_if, answer}
use Rattle.refusal.proofs.Fine.{refuse-fine, or-fine}
use Rattle.datom.specs.Fact.{Fact, words, aevt_row}
use Rattle.lists.specs.Span.{span}
use Rattle.lists.proofs.Tests.{neither}
use Rattle.tables.specs.Rows.{count, row}
use Rattle.tables_sort.specs.Sorted.{sorted_rows}
use Rattle.tables_sort.proofs.Sorted.{Even, even-map}
use Rattle.tables_build.specs.Build.{heap_fact, heap_rows, heap_fault, built_rows, build_of, built_over}
use Rattle.tables_build.specs.Meaning.{FilledTable}
use Rattle.tables_build.proofs.Laid.{filled_is}

-- each buffer is as long as the heap, where this is not refused
pub record Fits (h a b c : ℕ) : Type 0 where
  pub aevt : h ≤ a
  pub avet : h ≤ b
  pub eavt : h ≤ c

pub heap-fits : (h a b c : ℕ) → heap_fault h a b c ≡ Ok tt → Fits h a b c
heap-fits h a b c e =
    let p = or-fine (refuse_if (not (eqb (h % words) 0)) 70 0) (refuse_if (ltb a h || ltb b h || ltb c h) 71 0) e in
    let q = neither (ltb a h || ltb b h) (ltb c h) (refuse-fine _ 71 0 p.1) in
    let r = neither (ltb a h) (ltb b h) q.0 in
    record { aevt = ltb-false a h r.0; avet = ltb-false b h r.1; eavt = ltb-false c h q.1 }

-- the rows of a table are of one length
pub heap-even : (lie : Fact → List ℕ) → ((f : Fact) → length (lie f) ≡ words) → (h : List ℕ) → Even words (heap_rows lie h)
heap-even lie long h = even-map words (λ i. lie (heap_fact (row h i))) (λ i. long (heap_fact (row h i))) (span 0 (count h))

-- a heap that is not refused
module _ (h : List ℕ) (a b c : ℕ) (fine : heap_fault (length h) a b c ≡ Ok tt) where
  pub built-fine : (build_of h a b c).verdict ≡ Ok tt
  built-fine = rw fine

  pub answers : {n : ℕ} → n ≡ length (built_rows aevt_row h) → Ok n ≡ answer (build_of h a b c).verdict (build_of h a b c).count
  answers e = rw (fine, e)

pub fills : {v : Verdict} {wanted : List (List ℕ)} {n : ℕ} {t₀ t : List ℕ} → v ≡ Ok tt → Even words wanted → FilledTable wanted n t₀ t → t ≡ built_over v (sorted_rows wanted) t₀
fills p l g = rw p (filled_is l g)
