-- Laws of what is read into arrays and buffers, one element on.
use mathlib.Core.Path.{◌≡◌}
use mathlib.Core.Bool.{true}
use mathlib.Core.List.{List, ◌++◌}
use Prim.Native.Nat.{ℕ, suc, ◌+◌, ◌-◌, ◌≤◌, ◌<◌, min}
use native.Mathlib.Numerals.{add-one}
use native.Mathlib.Omega.{arith}
use lib.ListN.{length, take, drop, set, get_or}
use lib.Seq.{paste-suc}
use borrow.Author.Tests.{le-leb, lt-ltb, le-ltb, eq-eqb, ne_eqb}
use Rattle.capacity.specs.Capacity.{max_statements, max_selects}
use Rattle.lists.specs.Padded.{padded}
use Rattle.lists.specs.Tabled.{tabled}
use Rattle.query.specs.declared.Var.{Var}
use Rattle.query.specs.declared.Statement.{Statement}
use Rattle.query.specs.declared.Statements.{Statements}
use Rattle.query.specs.declared.Selects.{Selects}
use Rattle.query.specs.Query.{zero_var, zero_statement}
use Rattle.ask_question.specs.Parts.{are_bytes}
use Rattle.ask_question.specs.Asked.{asked_var, asked_statement, asked_statements, asked_selects, bytes_fit, bytes_after, end_of}

pub statements-are : (ws : List ℕ) (n i : ℕ) (items : List Statement) → items ≡ padded zero_statement max_statements (tabled (asked_statement ws) i)
    → i ≡ min n max_statements → ◌≡◌ {A = Statements} (record { items = items; count = n }) (asked_statements ws n)
unfolding asked_statements
statements-are ws n i items e h = rw (e, h)

pub selects_are : (ws : List ℕ) (n i : ℕ) (items : List Var) → items ≡ padded zero_var max_selects (tabled (λ i. asked_var (get_or ws i 0)) i)
    → i ≡ min n max_selects → ◌≡◌ {A = Selects} (record { items = items; count = n }) (asked_selects ws n)
unfolding asked_selects
selects_are ws n i items e h = rw (e, h)

-- bytes of names
module _ (ws buffer : List ℕ) (room : length ws ≤ length buffer) where
  pub bytes-all : are_bytes ws ≡ true → (true ≡ bytes_fit ws (length buffer)) × (ws ++ drop (length ws) buffer ≡ bytes_after ws buffer)
  unfolding bytes_fit bytes_after
  bytes-all h = (rw (le-leb (length ws) (length buffer) room, h), rw (le-leb (length ws) (length buffer) room, h))

-- ends of names
module _ (ws : List ℕ) (i : ℕ) where
  pub end-given : i < length ws → get_or ws i 0 ≡ end_of ws i
  unfolding end_of
  end-given h = rw (lt-ltb i (length ws) h)

  module _ (past : length ws ≤ i) where
    pub end_none : length ws ≡ 0 → 0 ≡ end_of ws i
    unfolding end_of
    end_none h = rw (le-ltb i (length ws) past, eq-eqb (length ws) 0 h)

    pub end-last : (length ws ≡ 0 → ⊥) → get_or ws (length ws - 1) 0 ≡ end_of ws i
    unfolding end_of
    end-last h = rw (le-ltb i (length ws) past, ne_eqb (length ws) 0 h)

-- one more byte in front of a buffer
pub copied_more : (ws buffer bytes : List ℕ) (i v : ℕ) → i < length ws → length ws ≤ length buffer → bytes ≡ take i ws ++ drop i buffer → v ≡ get_or ws i 0
    → set bytes i v ≡ take (i + 1) ws ++ drop (i + 1) buffer
copied_more ws buffer bytes i v h room e k =
    let p : set (take i ws ++ drop (0 + i) buffer) (0 + i) (get_or ws i 0) ≡ take (suc i) ws ++ drop (0 + suc i) buffer = paste-suc buffer 0 ws i 0 (omega arith) h in
    let z : 0 + i ≡ i = omega arith in
    let y : 0 + suc i ≡ suc i = omega arith in
    rw (e, k, add-one) (rw (z, y) at p)
