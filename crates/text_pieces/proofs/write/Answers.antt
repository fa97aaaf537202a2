-- What is copied is all of the piece that lies within the buffer.
use mathlib.Core.Path.{◌≡◌, sym, ◌∙◌}
use Prim.Native.Nat.{◌+◌, ◌-◌, ◌≤◌}
use native.Mathlib.Omega.{arith}
use borrow.Author.Rules.{rules}
use lib.ListN.{length, take}
use lib.Seq.{length-take-le}
use Rattle.lists.proofs.Sets.{sets-past}
use Rattle.text_pieces.proofs.Written.{sets-mid, sets-fitting}
use Rattle.text_pieces.proofs.write.Goals as goal
use Rattle.text_pieces.proofs.write.Goals.{then-at-out, else-at-out}

pub returns : goal.returns
returns c =
    let p = c.args.piece.now in
    let l = c.args.out.now in
    let at = c.args.at in
    record {
      position_is = search rules;
      buffer_is =
          elim c.if-at-out.branch [
            | then-at-out w ↦
                let n = w.min-count.result in
                let few : n ≤ length p = omega (arith, w.min-count.ensures) in
                let e : length (take n p) ≡ at + n - at = length-take-le n p few ∙ omega arith in
                let h : at + (at + n - at) ≤ length l = omega (arith, w.min-count.ensures) in
                rw (w.out-is, w.copy_from_slice.ensures.after) (sets-mid (take n p) l at (at + n - at) h e ∙ sets-fitting p l at n w.min-count.ensures)
            | else-at-out w ↦ rw w.out-is (sym (sets-past p l at w.if-at-out.false))
          ];
      within = (search rules, search rules);
    }
