-- The line is short.
use Rattle.std.proofs.Common.{◌<◌, ◌^◌, refl, arith}
use Rattle.refusal.specs.declared.Rule.{Rule}
use Rattle.refusal.specs.declared.Rule.TheVariants.{TableLength, TableOrder, TableMissing, TooManyStatements, TooManySlots, TooManySelects, NoSelects, NoSuchVariable, UnusedVariable, BoundTwice, TooManyToSearch, NoSoundOrder, PlanCounts, OutOutEavt, NoSuchSlot, WritesSetSlot, ReadsUnsetSlot, SlotNeverSet, NoSuchSelect, CostTooLarge, NoScans, ConstantSelected, NameEnds, TextTooShort, TooManyElements, TypeTable, NoSuchAttribute, TypeClash, BitsRunOut, NoSuchCode, PadNotZero, ByteTooMany, NoRoomForImage, HeapLength, BufferTooShort}
use Rattle.refusal.specs.Verdict.{number_in}
use Rattle.ask_opening.proofs.Said.{opens-only, refusal-written}
use Rattle.ask_opening.proofs.say_refusal.Goals as goal

-- a number is a byte
few : (r : Rule) → number_in r < 2 ^ 8
few TableLength = omega arith
few TableOrder = omega arith
few TableMissing = omega arith
few TooManyStatements = omega arith
few TooManySlots = omega arith
few TooManySelects = omega arith
few NoSelects = omega arith
few NoSuchVariable = omega arith
few UnusedVariable = omega arith
few BoundTwice = omega arith
few TooManyToSearch = omega arith
few NoSoundOrder = omega arith
few PlanCounts = omega arith
few OutOutEavt = omega arith
few NoSuchSlot = omega arith
few WritesSetSlot = omega arith
few ReadsUnsetSlot = omega arith
few SlotNeverSet = omega arith
few NoSuchSelect = omega arith
few CostTooLarge = omega arith
few NoScans = omega arith
few ConstantSelected = omega arith
few NameEnds = omega arith
few TextTooShort = omega arith
few TooManyElements = omega arith
few TypeTable = omega arith
few NoSuchAttribute = omega arith
few TypeClash = omega arith
few BitsRunOut = omega arith
few NoSuchCode = omega arith
few PadNotZero = omega arith
few ByteTooMany = omega arith
few NoRoomForImage = omega arith
few HeapLength = omega arith
few BufferTooShort = omega arith

pub returns : goal.returns
returns c = opens-only refl (refusal-written _ _ _ _ _ (few c.args.refusal.rule) (omega arith) c.write_refusal-length.ensures)
