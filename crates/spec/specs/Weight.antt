-- Weights: what the room in the work words is counted in. A node weighs its own words, two at least, and its parts, so
-- that a constant that the pass makes, which has two words, fits where any expression stood. The pass may make an
-- expression longer (Or(And(x, []), y) as a condition becomes Or(Seq(x, False), y)), but never heavier
-- (proofs/Weights.antt).
use Rattle.std.specs.Prelude.{List, [], ◌∷◌, ℕ, suc, ◌+◌, ◌*◌, length}
use Rattle.spec.specs.Rose.{Rose, Roses, node, nil, cons, sizes}
use Rattle.spec.specs.Tree.{Expr, Exprs, Target, Targets, Stmt, Stmts}
use Rattle.spec.specs.Tree.{rose_e, roses_e, rose_t, roses_t, rose_s, roses_s, rose_l}
use Rattle.spec.specs.Pass.{Condition, const_condition, expr_condition}

-- a node's own words: one word weighs two
abbrev pub own_weight : List ℕ → ℕ
own_weight [] = 0
own_weight (w ∷ []) = 2
own_weight (w ∷ (v ∷ vs)) = suc (suc (length vs))

abbrev mutual
  pub weight : Rose → ℕ
  weight (node s own ps) = own_weight own + weights ps

  pub weights : Roses → ℕ
  weights nil = 0
  weights (cons p ps) = weight p + weights ps

-- of expressions, targets and statements
abbrev pub weight_e : Expr → ℕ
weight_e e = weight (rose_e e)

abbrev pub weight_es : Exprs → ℕ
weight_es es = weights (roses_e es)

-- of a condition: a constant one weighs what a constant does that takes its place
abbrev pub weight_c : Condition → ℕ
weight_c (const_condition b) = 2
weight_c (expr_condition e) = weight_e e

abbrev pub weight_t : Target → ℕ
weight_t t = weight (rose_t t)

abbrev pub weight_ts : Targets → ℕ
weight_ts ts = weights (roses_t ts)

abbrev pub weight_s : Stmt → ℕ
weight_s s = weight (rose_s s)

-- of a list of statements, with its count word, which weighs two as well
abbrev pub weight_ss : Stmts → ℕ
weight_ss ss = weight (rose_l ss)

-- the weight of statements in a row, and their words, without a count word
abbrev pub row_weight : Stmts → ℕ
row_weight ss = weights (roses_s ss)

abbrev pub row_words : Stmts → ℕ
row_words ss = sizes (roses_s ss)

-- ---- the room, by weight

-- what the pass on an expression takes above what is kept: the result, a slot for a condition and both arms, each of
-- them no heavier than the expression
abbrev pub expr_room : ℕ → ℕ
expr_room w = 4 * w

-- what making statements takes, of an expression or of a condition and its arms: the results, and as much again for
-- the arm that is being made above them, until it is moved down behind them
abbrev pub made_room : ℕ → ℕ
made_room w = 3 * w + 3 * w

-- what a statement takes: a slot of exactly its weight for the simplified expression, which stays while statements are
-- made above it; before that the expression's own pass has all of this room
abbrev pub stmt_room : ℕ → ℕ
stmt_room w = w + made_room w

-- the work words for a rule of n words and weight w: the copied rule (n), and above it the room of its statements: the
-- slots (w), the results (3 × w), and the arms and moves (3 × w)
abbrev pub budget : ℕ → ℕ → ℕ
budget n w = n + stmt_room w
