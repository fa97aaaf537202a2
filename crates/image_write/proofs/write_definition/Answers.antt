-- A mark alone, or a mark and a value.
use Rattle.std.proofs.Common.{◌≡◌, length, arith}
use Rattle.bits.specs.Bits.{bits}
use Rattle.image.specs.Image.{definition_bits}
use Rattle.image.proofs.Length.{constant-length}
use Rattle.image_write.proofs.write_definition.Goals as goal

pub write_constant-requires : goal.write_constant-requires
write_constant-requires c =
    let long : length (definition_bits c.args.definition) ≡ 65 = rw c.in-Constant.is (constant-length _) in
    omega (arith, c.requires, long)

pub returns-in-Variable : goal.returns-in-Variable
unfolding bits
returns-in-Variable c = rw c.in-Variable.is c.write_bits.ensures
