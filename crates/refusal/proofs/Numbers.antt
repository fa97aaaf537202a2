-- A rule's number finds it again: no two rules have one number.
use mathlib.Core.Path.{◌≡◌, refl}
use Rattle.refusal.specs.declared.Rule.{Rule}
use Rattle.refusal.specs.declared.Rule.TheVariants.{TableLength, TableOrder, TableMissing, TooManyStatements, TooManySlots, TooManySelects, NoSelects, NoSuchVariable, UnusedVariable, BoundTwice, TooManyToSearch, NoSoundOrder, PlanCounts, OutOutEavt, NoSuchSlot, WritesSetSlot, ReadsUnsetSlot, SlotNeverSet, NoSuchSelect, CostTooLarge, NoScans, ConstantSelected, NameEnds, TextTooShort, TooManyElements, TypeTable, NoSuchAttribute, TypeClash, BitsRunOut, NoSuchCode, PadNotZero, ByteTooMany, NoRoomForImage, HeapLength, BufferTooShort}
use Rattle.refusal.specs.Verdict.{number_in, rule_of}

pub numbered : (r : Rule) → rule_of (number_in r) ≡ r
numbered TableLength = refl
numbered TableOrder = refl
numbered TableMissing = refl
numbered TooManyStatements = refl
numbered TooManySlots = refl
numbered TooManySelects = refl
numbered NoSelects = refl
numbered NoSuchVariable = refl
numbered UnusedVariable = refl
numbered BoundTwice = refl
numbered TooManyToSearch = refl
numbered NoSoundOrder = refl
numbered PlanCounts = refl
numbered OutOutEavt = refl
numbered NoSuchSlot = refl
numbered WritesSetSlot = refl
numbered ReadsUnsetSlot = refl
numbered SlotNeverSet = refl
numbered NoSuchSelect = refl
numbered CostTooLarge = refl
numbered NoScans = refl
numbered ConstantSelected = refl
numbered NameEnds = refl
numbered TextTooShort = refl
numbered TooManyElements = refl
numbered TypeTable = refl
numbered NoSuchAttribute = refl
numbered TypeClash = refl
numbered BitsRunOut = refl
numbered NoSuchCode = refl
numbered PadNotZero = refl
numbered ByteTooMany = refl
numbered NoRoomForImage = refl
numbered HeapLength = refl
numbered BufferTooShort = refl
