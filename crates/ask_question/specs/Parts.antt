-- docs/LAYOUT.md, "What the numbers say": a header of four numbers, and eight parts, one of which only some tasks have.
use Rattle.std.specs.Prelude.{ℕ, ◌+◌, ◌-◌, ◌*◌, Bool, true, false, cond, ◌&&◌, List, [], ◌∷◌, length, take, drop, get_or, leb, ltb}
use Rattle.ask_question.specs.declared.Part.{Part}
use Rattle.ask_question.specs.declared.Parts.{Parts}

-- no part: it has no items, and nothing comes after it
abbrev pub no_part : ℕ → Part
no_part end = record { inside = false; at = 0; count = 0; length = 0; next = end }

-- a part whose count n stands at a place: its items, of `width` words each, follow the count
abbrev pub part_from : ℕ → ℕ → ℕ → Part
part_from at n width = record { inside = true; at = at + 1; count = n; length = n * width; next = at + 1 + n * width }

-- the part whose count stands at a place, if that place and all its items are there
unfoldable pub part_at : List ℕ → ℕ → ℕ → Part
part_at ws at width =
    cond (ltb at (length ws) && leb (get_or ws at 0 * width) (length ws - (at + 1))) (part_from at (get_or ws at 0) width) (no_part (length ws))

-- tasks 2 and 3 are 0 and 1 with the types of the variables checked first
unfoldable pub checks_types : ℕ → Bool
checks_types task = ltb 1 task

-- a part that the input leaves out, its count too: it has no items, and the next one begins where it would
abbrev pub left_out : ℕ → Part
left_out at = record { inside = true; at = at; count = 0; length = 0; next = at }

-- the table of types, after the part that ends at a place: only where the task has types checked
unfoldable pub types_at : List ℕ → ℕ → Part
types_at ws at = cond (checks_types (get_or ws 0 0)) (part_at ws at 1) (left_out at)

-- each part begins where the one before it ends; the header is four numbers, a statement is four, every other item one
unfoldable pub parts_of : List ℕ → Parts
parts_of ws =
    let statements = part_at ws 4 4 in
    let selects = part_at ws statements.next 1 in
    let names = part_at ws selects.next 1 in
    let ends = part_at ws names.next 1 in
    let types = types_at ws ends.next in
    let aevt = part_at ws types.next 1 in
    let avet = part_at ws aevt.next 1 in
    let eavt = part_at ws avet.next 1 in
    record { statements = statements; selects = selects; names = names; ends = ends; types = types; aevt = aevt; avet = avet; eavt = eavt }

-- the words of a part's items
abbrev pub items_of : List ℕ → Part → List ℕ
items_of ws p = take p.length (drop p.at ws)

-- the third number of each statement is a kind: 0 a variable, 1 a constant
unfoldable pub are_kinds : List ℕ → Bool
are_kinds [] = true
are_kinds (e ∷ []) = true
are_kinds (e ∷ a ∷ []) = true
are_kinds (e ∷ a ∷ k ∷ []) = true
are_kinds (e ∷ a ∷ k ∷ v ∷ ws) = leb k 1 && are_kinds ws

-- each number is a byte
unfoldable pub are_bytes : List ℕ → Bool
are_bytes [] = true
are_bytes (w ∷ ws) = leb w 255 && are_bytes ws

-- in the layout: the last part is there and nothing follows it, the task is 0 to 3, the statements' kinds are kinds, and the names' bytes bytes
unfoldable pub inside_with : List ℕ → Parts → Bool
inside_with ws ps =
    ps.eavt.inside && (leb (length ws) ps.eavt.next && (leb (get_or ws 0 0) 3 && (are_kinds (items_of ws ps.statements) && are_bytes (items_of ws ps.names))))

-- by the parts that are found
abbrev pub inside_of : List ℕ → Bool
inside_of ws = inside_with ws (parts_of ws)
