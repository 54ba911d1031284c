-- Worked examples of reading words, computed: trees that are accepted, and refusals 5 and 7 to 10 with their places.
-- Assumes nothing.
use mathlib.Core.List.{List, [], ◌∷◌, ◌++◌}
use mathlib.Core.Path.{◌≡◌, refl}
use Prim.Native.Nat.{ℕ, zero, suc}
use lib.ListN.{replicate}
use Rattle.spec.specs.Outcome.{given, refused}
use Rattle.spec.specs.Rose.{Rose, node, nil, cons}
use Rattle.spec.specs.Grammar.{header}
use Rattle.spec.specs.Reading.{read_pay, read_parts, read_list, read_body, read_node, read_words}
use Rattle.spec.specs.declared.Sort.TheVariants as sort

-- ---- rules

-- no statement
empty_rule : read_words sort.List (0 ∷ []) ≡ given (node sort.List (0 ∷ []) nil)
unfolding read_pay read_parts read_list read_body read_node
empty_rule = refl

-- document 01, 'Cases': rule words 1 37 257 1 1 33 2 0 1 39, an If with a statement in each of its lists
abbrev single : Rose → Rose
single p = node sort.List (1 ∷ []) (cons p nil)

abbrev condition : Rose
condition = node sort.Expr (257 ∷ 1 ∷ []) nil

abbrev returned : Rose
returned = node sort.Stmt (33 ∷ []) (cons (node sort.Expr (2 ∷ 0 ∷ []) nil) nil)

abbrev broken : Rose
broken = node sort.Stmt (39 ∷ []) nil

case_rule : read_words sort.List (1 ∷ 37 ∷ 257 ∷ 1 ∷ 1 ∷ 33 ∷ 2 ∷ 0 ∷ 1 ∷ 39 ∷ [])
    ≡ given (single (node sort.Stmt (37 ∷ []) (cons condition (cons (single returned) (cons (single broken) nil)))))
unfolding read_pay read_parts read_list read_body read_node
case_rule = refl

-- ---- refusal 5: no words, and 16,129 of them; 16,128 pass

refused_5_none : (read_words sort.Expr [] ≡ refused 5 0) × (read_words sort.List [] ≡ refused 5 0)
unfolding read_pay read_parts read_list read_body read_node
refused_5_none = (refl, refl)

refused_5_many : (read_words sort.Expr (replicate 16129 0) ≡ refused 5 16129)
    × (read_words sort.List (replicate 16129 0) ≡ refused 5 16129)
unfolding read_pay read_parts read_list read_body read_node
refused_5_many = (refl, refl)

most_words : read_words sort.List (replicate 16128 0) ≡ refused 10 1
unfolding read_pay read_parts read_list read_body read_node
most_words = refl

-- ---- refusal 7: so many times Not around a constant; 200 levels pass

abbrev nested : ℕ → List ℕ
nested n = replicate n (header 11 3) ++ (257 ∷ 1 ∷ [])

abbrev nested_tree : ℕ → Rose
nested_tree zero = condition
nested_tree (suc n) = node sort.Expr (header 11 3 ∷ []) (cons (nested_tree n) nil)

deepest : read_words sort.Expr (nested 199) ≡ given (nested_tree 199)
unfolding read_pay read_parts read_list read_body read_node
deepest = refl

refused_7 : read_words sort.Expr (nested 200) ≡ refused 7 200
unfolding read_pay read_parts read_list read_body read_node
refused_7 = refl

-- at one word 8 comes before 7, and 7 before 9
refused_8_before_7 : read_words sort.Expr (replicate 200 (header 11 3)) ≡ refused 8 200
unfolding read_pay read_parts read_list read_body read_node
refused_8_before_7 = refl

refused_7_before_9 : read_words sort.Expr (replicate 200 (header 11 3) ++ (99 ∷ [])) ≡ refused 7 200
unfolding read_pay read_parts read_list read_body read_node
refused_7_before_9 = refl

-- ---- refusal 8: a rule of two statements that has one

refused_8 : read_words sort.List (2 ∷ 39 ∷ []) ≡ refused 8 2
unfolding read_pay read_parts read_list read_body read_node
refused_8 = refl

-- ---- refusal 9

-- a kind that is none, whatever the count before it
refused_9_kind : (read_words sort.List (2 ∷ 99 ∷ []) ≡ refused 9 1)
    × (read_words sort.List (4294967295 ∷ 99 ∷ []) ≡ refused 9 1)
unfolding read_pay read_parts read_list read_body read_node
refused_9_kind = (refl, refl)

-- a call of one argument with two names; a statement where an expression is due
refused_9_names : read_words sort.Expr (header 16 1 ∷ 2 ∷ []) ≡ refused 9 1
unfolding read_pay read_parts read_list read_body read_node
refused_9_names = refl

refused_9_sort : read_words sort.Expr (39 ∷ []) ≡ refused 9 0
unfolding read_pay read_parts read_list read_body read_node
refused_9_sort = refl

-- AssignModify's target is no tuple, while Assign's may be one
refused_9_target : read_words sort.List (1 ∷ 36 ∷ 66 ∷ 257 ∷ 1 ∷ []) ≡ refused 9 2
unfolding read_pay read_parts read_list read_body read_node
refused_9_target = refl

tuple_target_lem : read_words sort.List (1 ∷ 35 ∷ 0 ∷ 66 ∷ 257 ∷ 1 ∷ [])
    ≡ given (single (node sort.Stmt (35 ∷ 0 ∷ []) (cons (node sort.Target (66 ∷ []) nil) (cons condition nil))))
unfolding read_pay read_parts read_list read_body read_node
tuple_target_lem = refl

-- ---- refusal 10: a word behind a bool constant

refused_10 : read_words sort.Expr (257 ∷ 1 ∷ 0 ∷ []) ≡ refused 10 2
unfolding read_pay read_parts read_list read_body read_node
refused_10 = refl
