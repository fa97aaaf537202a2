-- 01, "Refusal numbers": every refusal returns its number and a place; where several would fit, the first in 01's order is given.
use Rattle.std.specs.Prelude.{ℕ, ◌+◌, ◌<◌, List, [], ◌∷◌, Bool, true, false, Result, Ok, Err, ⊤, find, unwrap_or, nat_eq}
use Rattle.refusal.specs.declared.Rule.{Rule}
use Rattle.refusal.specs.declared.Rule.TheVariants.{TableLength, TableOrder, TableMissing, TooManyStatements, TooManySlots, TooManySelects, NoSelects, NoSuchVariable, UnusedVariable, BoundTwice, TooManyToSearch, NoSoundOrder, PlanCounts, OutOutEavt, NoSuchSlot, WritesSetSlot, ReadsUnsetSlot, SlotNeverSet, NoSuchSelect, CostTooLarge, NoScans, ConstantSelected, NameEnds, TextTooShort, TooManyElements, TypeTable, NoSuchAttribute, TypeClash, BitsRunOut, NoSuchCode, PadNotZero, ByteTooMany, NoRoomForImage, HeapLength, BufferTooShort}
use Rattle.refusal.specs.declared.Refused.{Refused}

-- a refusal by one of 01's rules
abbrev pub Refusal : Type 0
Refusal = Refused Rule

-- nothing is wrong, or a refusal
abbrev pub Verdict : Type 0
Verdict = Result ⊤ Refusal

-- a rule's number
abbrev pub number_in : Rule → ℕ
number_in TableLength = 1
number_in TableOrder = 2
number_in TableMissing = 3
number_in TooManyStatements = 10
number_in TooManySlots = 11
number_in TooManySelects = 12
number_in NoSelects = 13
number_in NoSuchVariable = 14
number_in UnusedVariable = 15
number_in BoundTwice = 16
number_in TooManyToSearch = 17
number_in NoSoundOrder = 18
number_in PlanCounts = 20
number_in OutOutEavt = 21
number_in NoSuchSlot = 22
number_in WritesSetSlot = 23
number_in ReadsUnsetSlot = 24
number_in SlotNeverSet = 25
number_in NoSuchSelect = 26
number_in CostTooLarge = 27
number_in NoScans = 28
number_in ConstantSelected = 29
number_in NameEnds = 30
number_in TextTooShort = 31
number_in TooManyElements = 40
number_in TypeTable = 50
number_in NoSuchAttribute = 51
number_in TypeClash = 52
number_in BitsRunOut = 60
number_in NoSuchCode = 61
number_in PadNotZero = 62
number_in ByteTooMany = 63
number_in NoRoomForImage = 64
number_in HeapLength = 70
number_in BufferTooShort = 71

-- every rule, by its number
abbrev pub rules : List Rule
rules =
    TableLength ∷ TableOrder ∷ TableMissing ∷ TooManyStatements ∷ TooManySlots ∷ TooManySelects ∷ NoSelects ∷ NoSuchVariable ∷ UnusedVariable ∷ BoundTwice ∷ TooManyToSearch ∷ NoSoundOrder ∷ PlanCounts ∷ OutOutEavt ∷ NoSuchSlot ∷ WritesSetSlot ∷ ReadsUnsetSlot ∷ SlotNeverSet ∷ NoSuchSelect ∷ CostTooLarge ∷ NoScans ∷ ConstantSelected ∷ NameEnds ∷ TextTooShort ∷ TooManyElements ∷ TypeTable ∷ NoSuchAttribute ∷ TypeClash ∷ BitsRunOut ∷ NoSuchCode ∷ PadNotZero ∷ ByteTooMany ∷ NoRoomForImage ∷ HeapLength ∷ BufferTooShort ∷ []

-- the rule that has a number; where none has, the last
abbrev pub rule_of : ℕ → Rule
rule_of n = unwrap_or (find (λ r. nat_eq (number_in r) n) rules) BufferTooShort

-- refusal n at place p
abbrev pub refused : ℕ → ℕ → Verdict
refused n p = Err (record { rule = rule_of n; place = p })

-- refusal n at place p where the test holds
abbrev pub refuse_if : Bool → ℕ → ℕ → Verdict
refuse_if true n p = refused n p
refuse_if false n p = Ok tt

-- a refusal's number and its place; 0 where nothing is refused
abbrev pub number_of : Verdict → ℕ
number_of (Ok tt) = 0
number_of (Err r) = number_in r.rule

abbrev pub place_of : Verdict → ℕ
place_of (Ok tt) = 0
place_of (Err r) = r.place

-- a call's answer: the refusal, or a value where nothing is refused
abbrev pub answer : {A : Type 0} → Verdict → A → Result A Refusal
answer (Ok tt) value = Ok value
answer (Err r) value = Err r

-- the first refusal of two verdicts: the order of refusals is the text of the definitions that use this
abbrev pub or_else : Verdict → Verdict → Verdict
or_else (Ok tt) v = v
or_else (Err r) v = Err r

-- a call's answer: as it is refused, or as it is fine
abbrev pub unless : {A : Type 0} → Verdict → (Verdict → A) → A → A
unless (Ok tt) refusal answer = answer
unless (Err r) refusal answer = refusal (Err r)

-- the first refusal of items, each judged by itself: the first at place p, the next at p + 1, and so on
unfoldable pub first_fault : {A : Type 0} → (ℕ → A → Verdict) → ℕ → List A → Verdict
first_fault fault p [] = Ok tt
first_fault fault p (x ∷ xs) = or_else (fault p x) (first_fault fault (p + 1) xs)

-- refusal n at the place of the first item for which the test holds, counted from p on
unfoldable pub refuse_first : {A : Type 0} → (A → Bool) → ℕ → ℕ → List A → Verdict
refuse_first test n p xs = first_fault (λ i x. refuse_if (test x) n i) p xs

-- it is so of a place, and of none lower
pub record Lowest (P : ℕ → Type 0) (i : ℕ) : Type 0 where
  pub here : P i
  pub none_lower : (j : ℕ) → j < i → P j → ⊥
