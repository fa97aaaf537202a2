-- What the types mean: 02, Ticket 1's sentences on an assignment of types to variables, and what the answers say of it.
use Rattle.std.specs.Prelude.{◌≡◌, ℕ, ◌+◌, ◌≤◌, ◌<◌, List, [], ◌∷◌, true, false, length, get_or, take, replicate}
use Rattle.capacity.specs.Capacity.{max_slots}
use Rattle.std.specs.Prelude.{Ok, Err}
use Rattle.refusal.specs.Verdict.{Refusal, refused}
use Rattle.query.specs.declared.QueryValue.{QueryValue}
use Rattle.query.specs.declared.QueryValue.TheVariants.{Const, Var as Variable}
use Rattle.query.specs.declared.Statement.{Statement}
use Rattle.query.specs.declared.Query.{Query}
use Rattle.query.specs.Query.{statements_of, zero_statement}
use Rattle.planner.specs.Refusals.{plan_fault}
use Rattle.types.specs.Answered.{Inferred}
use Rattle.types.specs.Types.{is_table, is_typed, type_of, reference}

-- a type for each variable
abbrev pub Assignment : Type 0
Assignment = ℕ → ℕ

-- an entity is always a reference; a variable value has its attribute's type; a constant is skipped
abbrev pub ValueFits : Assignment → QueryValue → ℕ → Type 0
ValueFits types (Const c) t = Unit {0}
ValueFits types (Variable x) t = types x.0 ≡ t

pub record StatementFits (table : List ℕ) (types : Assignment) (s : Statement) : Type 0 where
  pub entity_fits : types s.entity.0 ≡ reference
  pub value_fits : ValueFits types s.value (type_of table s.attribute.0)

-- the types fit each of the statements
unfoldable pub TypesFit : List ℕ → Assignment → List Statement → Type 0
TypesFit table types [] = Unit {0}
TypesFit table types (s ∷ ss) = StatementFits table types s × TypesFit table types ss

-- the attribute of each of the statements is in the table
unfoldable pub AllTyped : List ℕ → List Statement → Type 0
AllTyped table [] = Unit {0}
AllTyped table (s ∷ ss) = (is_typed table s.attribute.0 ≡ true) × AllTyped table ss

-- a query that planning takes, over a table that is one, whose attributes are all there and which some types fit
pub record CanBeTyped (q : Query) (table : List ℕ) : Type 0 where
  pub plannable : plan_fault q ≡ Ok tt
  pub ascends : is_table table ≡ true
  pub attributes_there : AllTyped table (statements_of q)
  pub types : Assignment
  pub fits : TypesFit table types (statements_of q)

-- what an answer's array says: the type at each variable's place
abbrev pub types_in : List ℕ → Assignment
types_in types v = get_or types v 0

-- an answer that is not refused: its types fit every statement, no variable could have another type, and past the variables there are zeros
pub record WellTyped (q : Query) (table types : List ℕ) : Type 0 where
  pub fits : TypesFit table (types_in types) (statements_of q)
  pub one_type : (other : Assignment) → TypesFit table other (statements_of q) → (v : ℕ) → v < q.variable_count → other v ≡ types_in types v
  pub zeros_past : (v : ℕ) → q.variable_count ≤ v → types_in types v ≡ 0
  pub as_long : length types ≡ max_slots

-- 51 at i: the attribute of statement i is not in the table, and those before are
pub record Missing (q : Query) (table : List ℕ) (i : ℕ) : Type 0 where
  pub statement_there : i < length (statements_of q)
  pub attribute_missing : is_typed table (get_or (statements_of q) i zero_statement).attribute.0 ≡ false
  pub attributes_before : AllTyped table (take i (statements_of q))

-- 52 at i: some types fit the statements before number i, and none fit these and statement i
pub record Clash (q : Query) (table : List ℕ) (i : ℕ) : Type 0 where
  pub statement_there : i < length (statements_of q)
  pub types_before : Assignment
  pub before_fits : TypesFit table types_before (take i (statements_of q))
  pub none_fits : (types : Assignment) → TypesFit table types (take (i + 1) (statements_of q)) → ⊥

-- what `infer_types` must answer: exactly the queries that can be typed are answered, with their types; a refusal has its reason
pub record TypesDemanded (q : Query) (table : List ℕ) (r : Inferred) : Type 0 where
  pub answered : CanBeTyped q table → r.verdict ≡ Ok tt
  pub typed : r.verdict ≡ Ok tt → CanBeTyped q table
  pub well_typed : r.verdict ≡ Ok tt → WellTyped q table r.types
  pub missing : (i : ℕ) → r.verdict ≡ refused 51 i → Missing q table i
  pub clash : (i : ℕ) → r.verdict ≡ refused 52 i → Clash q table i
  pub zeros_refused : (x : Refusal) → r.verdict ≡ Err x → r.types ≡ replicate max_slots 0
