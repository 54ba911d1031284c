-- Values, operations, records, and choices of answers: document 01, 'Running', and document 02, 2.3.
use Rattle.std.specs.Prelude.{Bool, true, false, not, cond, List, ℕ}
use Rattle.spec.specs.Tree
use Rattle.spec.specs.Tree.{
  Const,
  boolean,
  int,
  string,
  type_function,
  len_function,
  other,
  Place,
  Fresh,
  tuple,
  list,
  Slot,
}
use Rattle.spec.specs.Tree.{Target, dot, index, tuple_target, slot, Targets, no_targets, more_targets}
use Rattle.spec.specs.Verdict.{is_type, is_string, is_test, const_truth, const_empty}

-- ---- operations

-- a target without its expressions: the headers and own words of the whole target
mutual
  pub data Shape : Type 0 where
    dot_shape : ℕ → Shape
    index_shape : Shape
    tuple_shape : Shapes → Shape
    slot_shape : Slot → Shape

  pub data Shapes : Type 0 where
    no_shapes : Shapes
    more_shapes : Shape → Shapes → Shapes

unfoldable mutual
  pub shape : Target → Shape
  shape (dot t e) = dot_shape t
  shape (index x y) = index_shape
  shape (tuple_target ts) = tuple_shape (shapes ts)
  shape (slot s) = slot_shape s

  pub shapes : Targets → Shapes
  shapes no_targets = no_shapes
  shapes (more_targets t ts) = more_shapes (shape t) (shapes ts)

-- "Reads, Def, calls but type calls, nonempty dicts, Slice, Index2, assignments, loop rounds, PossibleGc and all
-- operators but Not, TypeIs and logic are operations", each "with its detail, slot or number, texts, names and type
-- word": all but its operands
pub data Operation : Type 0 where
  read_op : Place → Operation
  dict_op : Operation
  -- an operator's header and payload
  oper_op : ℕ → List ℕ → Operation
  -- names, args, kwargs
  call_op : List ℕ → Bool → Bool → Operation
  -- the type word, and the operator's number
  assign_op modify_op : ℕ → Shape → Operation
  round_op : Operation
  -- a round's item given to the loop's target
  take_op : Shape → Operation
  gc_op : Operation

-- ---- values and records

mutual
  pub data Value : Type 0 where
    constant : Const → Value
    -- "a fresh list, a fresh tuple and the empty dict": each carries the record at its making, so that "Equal fresh
    -- ones made with no operation between are one value here, and so are equal ones made in two runs on equal records"
    fresh_value : Fresh → Values → Record → Value
    empty_dict : Record → Value
    -- any other value, by its number
    opaque : ℕ → Value

  pub data Values : Type 0 where
    no_values : Values
    more_values : Value → Values → Values

  -- "its answer, a value or failure"; failures are told apart by their numbers
  pub data Answer : Type 0 where
    gives : Value → Answer
    fails : ℕ → Answer

  -- "each is recorded with its operands and its answer"; "The record starts empty"
  pub data Record : Type 0 where
    start : Record
    recorded : Record → Operation → Values → Answer → Record

-- "the record so far and the value give a whole number of rounds, or a failure"
pub data Rounds : Type 0 where
  times : ℕ → Rounds
  stops : ℕ → Rounds

-- "a choice of answers settles for every record and next operation the answer, for every record and looped value the
-- rounds or failure, for every value its truth and type text". No law is asked of it: what 01 fixes is laid over it
-- below.
pub record Choice : Type 0 where
  pub answer : Record → Operation → Values → Answer
  pub rounds : Record → Value → Rounds
  pub truth : ℕ → Bool
  pub type_text : ℕ → ℕ

-- ---- truths, type texts and rounds

-- "type text 1 for None, 2 for a bool, 3 for an int, 4 for a string, 5 for both functions, .. an other's .. as in its
-- word"
abbrev pub const_type : Const → ℕ
const_type Tree.none = 1
const_type (boolean b) = 2
const_type (int n) = 3
const_type (string t) = 4
const_type type_function = 5
const_type len_function = 5
const_type (other n t b e) = t

-- "a fresh list, a fresh tuple and the empty dict have 7, 6 and 8"
abbrev pub fresh_type : Fresh → ℕ
fresh_type tuple = 6
fresh_type list = 7

abbrev pub has_parts : Values → Bool
has_parts no_values = false
has_parts (more_values v vs) = true

abbrev pub join_values : Values → Values → Values
join_values no_values ws = ws
join_values (more_values v vs) ws = more_values v (join_values vs ws)

module _ (C : Choice) where
  -- "Every value has a truth and a type text"; "A fresh list or tuple is true iff it has parts"; "the empty dict, which
  -- is false"
  unfoldable pub value_truth : Value → Bool
  value_truth (constant c) = const_truth c
  value_truth (fresh_value f vs h) = has_parts vs
  value_truth (empty_dict h) = false
  value_truth (opaque n) = C.truth n

  unfoldable pub value_type : Value → ℕ
  value_type (constant c) = const_type c
  value_type (fresh_value f vs h) = fresh_type f
  value_type (empty_dict h) = 8
  value_type (opaque n) = C.type_text n

-- "an empty one, and the empty dict, .. gives a loop no round and no record, as does an empty built-in constant"; 02,
-- 2.3: "The premise on empty built-in constants keeps only the marked ones"
unfoldable pub value_empty : Value → Bool
value_empty (constant c) = const_empty c
value_empty (fresh_value f vs h) = not (has_parts vs)
value_empty (empty_dict h) = true
value_empty (opaque n) = false

unfoldable pub is_type_value : Value → Bool
is_type_value (constant c) = is_type c
is_type_value (fresh_value f vs h) = false
is_type_value (empty_dict h) = false
is_type_value (opaque n) = false

-- a string constant, as which a type call gives its argument's type text
abbrev pub is_string_value : Value → Bool
is_string_value (constant c) = is_string c
is_string_value (fresh_value f vs h) = false
is_string_value (empty_dict h) = false
is_string_value (opaque n) = false

-- a failure, whatever the choice says: its own failure, or the one with the number of its rounds
abbrev pub as_failure : Rounds → Rounds
as_failure (times n) = stops n
as_failure (stops f) = stops f

module _ (C : Choice) where
  -- what the choice says of rounds, with what 01 and 02 fix laid over it; 02, 2.3: "looping over a string constant or a
  -- type call's answer fails in our account of running"
  unfoldable pub rounds_of : Record → Value → Rounds
  rounds_of h v = cond (is_string_value v) (as_failure (C.rounds h v)) (cond (value_empty v) (times 0) (C.rounds h v))

  -- "In, Equals, Compare succeed only with one": with a bool constant, the truth of what the choice gives
  unfoldable pub as_bool : Answer → Answer
  as_bool (gives v) = gives (constant (boolean (value_truth C v)))
  as_bool (fails f) = fails f

  unfoldable pub answer_to : Record → Operation → Values → Answer
  answer_to h (oper_op o pay) vs =
      cond (is_test o) (as_bool (C.answer h (oper_op o pay) vs)) (C.answer h (oper_op o pay) vs)
  answer_to h (read_op p) vs = C.answer h (read_op p) vs
  answer_to h dict_op vs = C.answer h dict_op vs
  answer_to h (call_op names args kwargs) vs = C.answer h (call_op names args kwargs) vs
  answer_to h (assign_op w s) vs = C.answer h (assign_op w s) vs
  answer_to h (modify_op op s) vs = C.answer h (modify_op op s) vs
  answer_to h round_op vs = C.answer h round_op vs
  answer_to h (take_op s) vs = C.answer h (take_op s) vs
  answer_to h gc_op vs = C.answer h gc_op vs
