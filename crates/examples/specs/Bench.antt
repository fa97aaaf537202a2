-- 01, "Bench examples": the queries, tables and plans that its lines speak of.
use Rattle.std.specs.Prelude.{ℕ, List, [], ◌∷◌, length, replicate}
use Rattle.capacity.specs.Capacity.{max_scans, max_slots, max_selects}
use Rattle.lists.specs.Padded.{padded}
use Rattle.query.specs.declared.QueryValue.TheVariants.{Const, Var as Variable}
use Rattle.query.specs.declared.Statement.{Statement}
use Rattle.query.specs.declared.Query.{Query}
use Rattle.planner_lent.specs.Lent.{read_statements, read_selects, query_of}
use Rattle.plan.specs.declared.Scan.{Scan}
use Rattle.plan.specs.declared.SlotRecord.{SlotRecord}
use Rattle.plan.specs.declared.SlotDefinition.TheVariants.{Constant}
use Rattle.plan.specs.declared.Plan.{Plan}
use Rattle.plan.specs.declared.Index.TheVariants.{Aevt}
use Rattle.plan.specs.declared.Flow.TheVariants.{OutOut, InIn}
use Rattle.plan.specs.Plan.{zero_slot, zero_scan, variable_slot}
use Rattle.visits.specs.Visits.{Tables}

-- (entity variable, attribute, variable) and (entity variable, attribute, constant)
abbrev pub relates : ℕ → ℕ → ℕ → Statement
relates e a v = record { entity = record { 0 = e }; attribute = record { 0 = a }; value = Variable (record { 0 = v }) }

abbrev pub equals : ℕ → ℕ → ℕ → Statement
equals e a c = record { entity = record { 0 = e }; attribute = record { 0 = a }; value = Const c }

-- n variables, statements, the selected variable
abbrev pub query : ℕ → List Statement → ℕ → Query
query n ss v = query_of n (read_statements ss) (read_selects (record { 0 = v } ∷ []))

-- E: 2 variables; (0, attribute 5, variable 1), (1, attribute 9, constant 7); select 1. And E reversed
abbrev pub e : Query
e = query 2 (relates 0 5 1 ∷ equals 1 9 7 ∷ []) 1

abbrev pub reversed : Query
reversed = query 2 (equals 1 9 7 ∷ relates 0 5 1 ∷ []) 1

-- (x,5,x) alone
abbrev pub alone : Query
alone = query 1 (relates 0 5 0 ∷ []) 0

-- (x,5,y) then (x,7,x), and reversed
abbrev pub pair : Query
pair = query 2 (relates 0 5 1 ∷ relates 0 7 0 ∷ []) 0

abbrev pub turned : Query
turned = query 2 (relates 0 7 0 ∷ relates 0 5 1 ∷ []) 0

-- triples (1,5,10) (1,5,11) (2,5,11) (10,9,6) (11,9,7)
abbrev pub triples : Tables
triples = record {
  aevt = 5 ∷ 1 ∷ 10 ∷ 5 ∷ 1 ∷ 11 ∷ 5 ∷ 2 ∷ 11 ∷ 9 ∷ 10 ∷ 6 ∷ 9 ∷ 11 ∷ 7 ∷ [];
  avet = 5 ∷ 10 ∷ 1 ∷ 5 ∷ 11 ∷ 1 ∷ 5 ∷ 11 ∷ 2 ∷ 9 ∷ 6 ∷ 10 ∷ 9 ∷ 7 ∷ 11 ∷ [];
  eavt = 1 ∷ 5 ∷ 10 ∷ 1 ∷ 5 ∷ 11 ∷ 2 ∷ 5 ∷ 11 ∷ 10 ∷ 9 ∷ 6 ∷ 11 ∷ 9 ∷ 7 ∷ [];
}

-- and none
abbrev pub no_triples : Tables
no_triples = record { aevt = []; avet = []; eavt = [] }

-- a plan of these scans and slots that selects slot 0
abbrev pub plan_with : List Scan → List SlotRecord → Plan
plan_with scans slots = record {
  scans = padded zero_scan max_scans scans;
  scan_count = length scans;
  slots = padded variable_slot max_slots slots;
  slot_count = length slots;
  select = padded zero_slot max_selects (zero_slot ∷ []);
  select_count = 1;
}

-- a plan of constants and no scans
abbrev pub constants_only : Plan
constants_only = plan_with [] (record { definition = Constant 7 } ∷ [])

-- E's plan, but with its first scan over attribute 9
abbrev pub over_attribute : Plan
over_attribute =
    plan_with
    (record { index = Aevt; flow = OutOut; entity = record { 0 = 0 }; attribute = record { 0 = 9 }; value = record { 0 = 1 } } ∷
    record { index = Aevt; flow = InIn; entity = record { 0 = 1 }; attribute = record { 0 = 9 }; value = record { 0 = 2 } } ∷ [])
    (variable_slot ∷ variable_slot ∷ record { definition = Constant 7 } ∷ [])

-- n out-out aevt scans on one attribute
abbrev pub out_outs : ℕ → Plan
out_outs n = plan_with (replicate n zero_scan) (variable_slot ∷ [])
