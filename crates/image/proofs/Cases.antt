-- 01's example as bytes, and what bytes are read as, by computing.
use mathlib.Core.Path.{◌≡◌, refl}
use Prim.Native.Nat.{ℕ, ◌+◌}
use mathlib.Core.List.{List, [], ◌∷◌, ◌++◌, map}
use lib.ListN.{get_or, take}
use Rattle.capacity.specs.Capacity.{max_scans, max_slots, max_selects}
use Rattle.std.specs.Prelude.{Ok}
use Rattle.refusal.specs.Verdict.{refused, first_fault, refuse_first}
use Rattle.lists.specs.Laid.{laid}
use Rattle.lists.specs.Padded.{padded}
use Rattle.lists.specs.Span.{span}
use Rattle.plan.specs.declared.SlotDefinition.TheVariants.{Constant}
use Rattle.plan.specs.declared.Plan.{Plan}
use Rattle.plan.specs.declared.Index.TheVariants.{Aevt}
use Rattle.plan.specs.declared.Flow.TheVariants.{OutOut, InIn}
use Rattle.plan.specs.Plan.{zero_slot, zero_scan, variable_slot, empty_plan, counts_fault}
use Rattle.plan_check.specs.Check.{is_written, is_set, slot_fault, scan_fault, scans_fault, unset_fault, initialization_fault, select_fault, selects_fault, check_of}
use Rattle.bits.specs.Bits.{bits, number_from, packed_within}
use Rattle.image.specs.Answered.{PlanRead}
use Rattle.image.specs.Image.{plan_bits, image_of}
use Rattle.image.specs.Read.{field, code, slot, scan, select, many, all_zero, end_fault, fields, parsed, plan_read_of}

abbrev e : Plan
e = record {
  scans = padded zero_scan max_scans (
      record { index = Aevt; flow = OutOut; entity = record { 0 = 0 }; attribute = record { 0 = 5 }; value = record { 0 = 1 } } ∷
      record { index = Aevt; flow = InIn; entity = record { 0 = 1 }; attribute = record { 0 = 9 }; value = record { 0 = 2 } } ∷ []);
  scan_count = 2;
  slots = padded variable_slot max_slots (variable_slot ∷ variable_slot ∷ record { definition = Constant 7 } ∷ []);
  slot_count = 3;
  select = padded zero_slot max_selects (record { 0 = 1 } ∷ []);
  select_count = 1;
}

-- the bytes, made by another program from the ticket's words
bytes : image_of e ≡ 8 ∷ 24 ∷ 36 ∷ 0 ∷ 0 ∷ 0 ∷ 0 ∷ 0 ∷ 0 ∷ 0 ∷ 28 ∷ 0 ∷ 0 ∷ 0 ∷ 0 ∷ 0 ∷ 0 ∷ 0 ∷ 0 ∷ 2 ∷ 129 ∷ 32 ∷ 32 ∷ 0 ∷ 0 ∷ 0 ∷ 0 ∷ 0 ∷ 0 ∷ 1 ∷ 32 ∷ 128 ∷ 128 ∷ []
unfolding laid bits number_from packed_within plan_bits padded
bytes = refl

-- bytes, and what they are read as
record Line : Type 0 where
  given : List ℕ
  answer : PlanRead

abbrev fine : List ℕ → Plan → Line
fine b p = record { given = b; answer = record { verdict = Ok tt; plan = p } }

abbrev refuses : List ℕ → ℕ → ℕ → Line
refuses b n place = record { given = b; answer = record { verdict = refused n place; plan = empty_plan } }

abbrev table : List Line
table =
    fine (image_of e) e
    -- cut; the last select begins in byte 31
    ∷ refuses (take 32 (image_of e)) 60 31
    ∷ refuses [] 60 0
    -- a byte more
    ∷ refuses (image_of e ++ (0 ∷ [])) 63 33
    -- the last bit is a pad bit; 62 before 63
    ∷ refuses (take 32 (image_of e) ++ ((get_or (image_of e) 32 0 + 1) ∷ [])) 62 32
    ∷ refuses (take 32 (image_of e) ++ ((get_or (image_of e) 32 0 + 1) ∷ 0 ∷ [])) 62 32
    -- more selects than any plan has and 6 slots, whose marks are cut: 20 right after the counts; cut within them, 60
    ∷ refuses (0 ∷ 55 ∷ 224 ∷ []) 20 0
    ∷ refuses (0 ∷ 55 ∷ []) 60 1
    -- one scan, no slot, no select, a code 3 in bits 19 and 20: 61 whatever is missing behind it
    ∷ refuses (4 ∷ 0 ∷ 24 ∷ []) 61 2
    -- no scan, slot or select, which is 13: a pad bit and a byte more come first
    ∷ refuses (0 ∷ 0 ∷ 1 ∷ []) 62 2
    ∷ refuses (0 ∷ 0 ∷ 0 ∷ 0 ∷ []) 63 3
    ∷ refuses (0 ∷ 0 ∷ 0 ∷ []) 13 0
    ∷ []

read : map (λ (l : Line). plan_read_of l.given) table ≡ map (λ (l : Line). l.answer) table
unfolding laid bits number_from packed_within plan_bits padded span field code slot scan select many all_zero end_fault fields parsed plan_read_of counts_fault first_fault refuse_first is_written is_set slot_fault scan_fault scans_fault unset_fault initialization_fault select_fault selects_fault check_of
read = refl
