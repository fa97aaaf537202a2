-- A key as the searches pass it on.
use Rattle.std.specs.Prelude.{List, ℕ}
use Rattle.tables.specs.Rows.{key}
use Rattle.tables.specs.declared.Key.{Key}

-- the words of a key
abbrev pub sought : Key → List ℕ
sought k = key k.inputs k.first k.second k.third
