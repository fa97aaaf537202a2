-- The same of the numbers below the count of variables.
use mathlib.Core.Path.{◌≡◌, refl, sym, ◌∙◌}
use Prim.Native.Nat.{ℕ, ◌<◌}
use native.Mathlib.Omega.{arith}
use lib.ListN.{get_or, take}
use lib.Seq.{take_all}
use Rattle.lists.specs.Span.{span}
use Rattle.lists.proofs.Span.{length-span, get_or-span}
use Rattle.refusal.specs.declared.Rule.TheVariants.{UnusedVariable}
use Rattle.refusal.specs.Verdict.{refuse_first}
use Rattle.refusal.proofs.First.{walked_on, walked-found, walked-done}
use Rattle.query_check.specs.Refusals.{unused_fault}
use Rattle.query_check.proofs.check_all_named.Goals as goal

-- element v of the numbers below n
at : (n v : ℕ) → v < n → get_or (span 0 n) v 0 ≡ v
at n v h = get_or-span 0 n v h ∙ omega arith

-- they are n
all : (n : ℕ) → take n (span 0 n) ≡ span 0 n
all n = take_all n (span 0 n) (omega (arith, length-span 0 n))

pub loop-v-init : goal.loop-v-init
loop-v-init c =
    let e = length-span 0 c.args.variables in
    record { within = omega arith; fits = omega (arith, e); rest = refl }

pub returns-then-not-is_named : goal.returns-then-not-is_named
unfolding unused_fault refuse_first
returns-then-not-is_named c =
    let h : c.loop-v.v < c.args.variables = c.loop-v-test.true in
    let found = walked-found c.loop-v.invariant 0 {r = record { rule = UnusedVariable; place = c.loop-v.v }} h (rw (at c.args.variables c.loop-v.v h, sym c.is_named.ensures ∙ c.if-not-is_named.true) refl) in
    c.refuse.ensures ∙ sym (rw (all c.args.variables) at found)

pub loop-v-preserved : goal.loop-v-preserved
loop-v-preserved c =
    let h : c.loop-v.v < c.args.variables = c.loop-v-test.true in
    walked_on c.loop-v.invariant 0 h (rw (at c.args.variables c.loop-v.v h, sym c.is_named.ensures ∙ c.if-not-is_named.false) refl)

pub returns : goal.returns
unfolding unused_fault refuse_first
returns c = sym (rw (all c.args.variables) at (walked-done c.loop-v.invariant c.loop-v-test.false))
