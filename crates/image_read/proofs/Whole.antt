-- From the fields to the answer: the counts, the plan behind them, the end and the plan check.
use mathlib.Core.Path.{◌≡◌, refl, sym, ap, ◌∙◌}
use Prim.Native.Nat.{ℕ, ◌+◌, ◌/◌, ◌%◌, ◌^◌}
use mathlib.Core.List.{List}
use mathlib.Core.Bool.{not}
use native.Mathlib.Omega.{arith}
use lib.ListN.{length, get_or, take}
use lib.Dec.{ltb, eqb}
use Rattle.refusal.specs.Verdict.{Refusal, Verdict}
use Rattle.std.specs.Prelude.{Result, Ok, Err}
use Rattle.refusal.specs.Verdict.{refuse_if, or_else}
use Rattle.capacity.specs.Capacity.{max_scans, max_slots, max_selects}
use Rattle.lists.specs.Padded.{padded}
use Rattle.plan.specs.declared.Plan.{Plan}
use Rattle.plan.specs.declared.Scan.{Scan}
use Rattle.plan.specs.declared.Slot.{Slot}
use Rattle.plan.specs.declared.SlotRecord.{SlotRecord}
use Rattle.plan.specs.Plan.{zero_scan, zero_slot, variable_slot, counts_fault}
use Rattle.plan.proofs.Counts.{counts-fine}
use Rattle.plan_check.specs.Check.{check_of}
use Rattle.bits.specs.Bits.{padding}
use Rattle.image.specs.Read.{Parsed, met, stopped, and_then, unless_fault, field, slot, scan, select, many, plan_read, fields, end_fault, parsed, read_as, plan_read_of}
use Rattle.image.proofs.Places.{end-at}
use Rattle.image_read.specs.declared.Counts.{Counts}
use Rattle.image_read.specs.declared.fields.Cursor.{Cursor}
use Rattle.image_read.specs.Reads.{bit_of, bits_from, Within, Reads, ReadsMany}
use Rattle.image_read.specs.Plan.{start, counts_read, counted, plan_behind, ReadsCounts}
use Rattle.image_read.proofs.Answered.{byte_of, read-then, read-stop, read-as}

-- from the slot count on, and from the select count on
abbrev from_selects : ℕ → ℕ → List ℕ → ℕ → Parsed Counts
from_selects n m l at = and_then (field 6 l at) (λ k l' at'. unless_fault (counts_fault n m k) (met (counts_read n m k) l' at'))

abbrev from_slots : ℕ → List ℕ → ℕ → Parsed Counts
from_slots n l at = and_then (field 7 l at) (from_selects n)

-- the counts, as far as they are read
module _ {b : List ℕ} where
  stopped-counts : {f : Refusal} → Reads counted b start (Err f) → ReadsCounts b (Err f)
  stopped-counts r = record { reads = r; few = tt }

  pub no-scan-count : {f : Refusal} → Reads (field 6) b start (Err f) → ReadsCounts b (Err f)
  unfolding counted
  no-scan-count r = stopped-counts (read-stop r from_slots)

  module _ {n : ℕ} {d : Cursor} (r : Reads (field 6) b start (Ok (n, d))) where
    pub no-slot-count : {f : Refusal} → Reads (field 7) b d (Err f) → ReadsCounts b (Err f)
    unfolding counted
    no-slot-count r₂ = stopped-counts (read-then r from_slots (read-stop r₂ (from_selects n)))

    module _ {m : ℕ} {d₂ : Cursor} (r₂ : Reads (field 7) b d (Ok (m, d₂))) where
      from-select-count : {out : Result (Counts × Cursor) Refusal} → Reads (from_selects n m) b d₂ out → Reads counted b start out
      unfolding counted
      from-select-count s = read-then r from_slots (read-then r₂ (from_selects n) s)

      abbrev checked : ℕ → List ℕ → ℕ → Parsed Counts
      checked k l at = unless_fault (counts_fault n m k) (met (counts_read n m k) l at)

      pub no-select-count : {f : Refusal} → Reads (field 6) b d₂ (Err f) → ReadsCounts b (Err f)
      no-select-count r₃ = stopped-counts (from-select-count (read-stop r₃ checked))

      module _ {k : ℕ} {d₃ : Cursor} (r₃ : Reads (field 6) b d₂ (Ok (k, d₃))) where
        pub counts-refused : {f : Refusal} → counts_fault n m k ≡ Err f → ReadsCounts b (Err f)
        counts-refused {f} v =
            let s : Reads (checked k) b d₃ (Err f) = record { answers = rw v refl; within = tt } in
            stopped-counts (from-select-count (read-then r₃ checked s))

        pub counts-met : counts_fault n m k ≡ Ok tt → ReadsCounts b (Ok (counts_read n m k, d₃))
        counts-met v =
            let s : Reads (checked k) b d₃ (Ok (counts_read n m k, d₃)) = record { answers = rw v refl; within = r₃.within } in
            record { reads = from-select-count (read-then r₃ checked s); few = counts-fine n m k v }

-- an array, and what is made of it
pub array-as : {A B : Type 0} {p : List ℕ → ℕ → Parsed A} {z : A} {room n : ℕ} {b : List ℕ} {c : Cursor} {items : List A} {d : Cursor}
    → ReadsMany p z room n b c (Ok (items, d)) → (g : List A → B)
    → Reads (λ l at. and_then (many p n l at) (λ xs l' at'. met (g (padded z room xs)) l' at')) b c (Ok (g items, d))
array-as {A = A} {z = z} {room = room} {n = n} {items = items} r g =
    let s = read-as r.reads (λ (xs : List A). g (padded z room xs)) in
    let f : g (padded z room (take n items)) ≡ g items = ap g (sym r.filled) in
    rw f at s

-- from the scans on, and from the selects on
abbrev from_selected : Counts → List SlotRecord → List Scan → List ℕ → ℕ → Parsed Plan
from_selected c ss xs l at = and_then (many select c.selects l at) (λ ks l' at'. met (plan_read c.scans c.slots c.selects ss xs ks) l' at')

abbrev from_scans : Counts → List SlotRecord → List ℕ → ℕ → Parsed Plan
from_scans c ss l at = and_then (many scan c.scans l at) (from_selected c ss)

-- the plan behind the counts, as far as it is read
module _ (c : Counts) {b : List ℕ} {at : Cursor} where
  pub no-slots : {f : Refusal} → ReadsMany slot variable_slot max_slots c.slots b at (Err f) → Reads (plan_behind c) b at (Err f)
  unfolding plan_behind
  no-slots r = read-stop r.reads (from_scans c)

  module _ {ss : List SlotRecord} {d : Cursor} (r : ReadsMany slot variable_slot max_slots c.slots b at (Ok (ss, d))) where
    pub no-scans : {f : Refusal} → ReadsMany scan zero_scan max_scans c.scans b d (Err f) → Reads (plan_behind c) b at (Err f)
    unfolding plan_behind
    no-scans r₂ = read-then r.reads (from_scans c) (read-stop r₂.reads (from_selected c (take c.slots ss)))

    module _ {xs : List Scan} {d₂ : Cursor} (r₂ : ReadsMany scan zero_scan max_scans c.scans b d (Ok (xs, d₂))) where
      pub no-selects : {f : Refusal} → ReadsMany select zero_slot max_selects c.selects b d₂ (Err f) → Reads (plan_behind c) b at (Err f)
      unfolding plan_behind
      no-selects r₃ =
          read-then r.reads (from_scans c) (read-then r₂.reads (from_selected c (take c.slots ss))
          (read-stop r₃.reads (λ ks l' at'. met (plan_read c.scans c.slots c.selects (take c.slots ss) (take c.scans xs) ks) l' at')))

      pub plan-read : {ks : List Slot} {d₃ : Cursor} → ReadsMany select zero_slot max_selects c.selects b d₂ (Ok (ks, d₃))
          → Reads (plan_behind c) b at (Ok (record { scans = xs; scan_count = c.scans; slots = ss; slot_count = c.slots; select = ks; select_count = c.selects }, d₃))
      unfolding plan_behind
      plan-read r₃ =
          let g : List Slot → Plan = λ ks. record {
            scans = padded zero_scan max_scans (take c.scans xs);
            scan_count = c.scans;
            slots = padded variable_slot max_slots (take c.slots ss);
            slot_count = c.slots;
            select = ks;
            select_count = c.selects;
          } in
          let s = read-then r.reads (from_scans c) (read-then r₂.reads (from_selected c (take c.slots ss)) (array-as r₃ g)) in
          rw (← r.filled, ← r₂.filled) at s

-- the fields in two parts
module _ {A B C : Type 0} where
  then-then : (r : Parsed A) (f : A → List ℕ → ℕ → Parsed B) (g : B → List ℕ → ℕ → Parsed C)
      → and_then (and_then r f) g ≡ and_then r (λ x l at. and_then (f x l at) g)
  then-then (met x l at) f g = refl
  then-then (stopped v) f g = refl

unless-then : {A B : Type 0} (v : Verdict) (r : Parsed A) (g : A → List ℕ → ℕ → Parsed B) → and_then (unless_fault v r) g ≡ unless_fault v (and_then r g)
unless-then (Ok tt) r g = refl
unless-then (Err f) r g = refl

pub fields-parted : (l : List ℕ) (at : ℕ) → and_then (counted l at) plan_behind ≡ fields l at
unfolding counted plan_behind fields
fields-parted l at = simp (then-then, unless-then)

-- the end, by the byte where it is
pub end_is : (b : List ℕ) (c : Cursor) → Within b c
    → end_fault (bits_from b c) (bit_of c)
    ≡ or_else (refuse_if (not (eqb (get_or b c.byte 0 % 2 ^ padding (bit_of c)) 0)) 62 c.byte)
    (refuse_if (ltb (c.byte + (c.bit + 7) / 8) (length b)) 63 (c.byte + (c.bit + 7) / 8))
end_is b c h =
    let k = h.in_byte in
    let e : (bit_of c + padding (bit_of c)) / 8 ≡ c.byte + (c.bit + 7) / 8 = omega arith in
    end-at (bit_of c) b h.in_bytes ∙ rw (byte_of b c h, e) refl

-- the answer
module _ {b : List ℕ} where
  pub image-stopped : {f : Refusal} → Reads fields b start (Err f) → plan_read_of b ≡ read_as (stopped f)
  unfolding plan_read_of parsed
  image-stopped r = rw (sym r.answers) refl

  module _ {p : Plan} {d : Cursor} (r : Reads fields b start (Ok (p, d))) where
    pub image-refused : {f : Refusal} → or_else (end_fault (bits_from b d) (bit_of d)) (check_of p) ≡ Err f → plan_read_of b ≡ read_as (stopped f)
    unfolding plan_read_of parsed
    image-refused v = rw (sym r.answers, v) refl

    pub image-fine : or_else (end_fault (bits_from b d) (bit_of d)) (check_of p) ≡ Ok tt → plan_read_of b ≡ record { verdict = Ok tt; plan = p }
    unfolding plan_read_of parsed
    image-fine v = rw (sym r.answers, v) refl
