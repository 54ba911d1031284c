-- `if_stmt` step by step: the condition is simplified at the back of its slot, and by what is left of it an arm is
-- placed, the arms are swapped, statements go ahead, or an If or the condition alone is written.
-- Assumes nothing.
use mathlib.Core.Bool.{Bool, true, false, cond, ◌&&◌}
use mathlib.Core.List.{List}
use mathlib.Core.Path.{◌≡◌, refl, ap, ap₂, sym, subst, ◌∙◌}
use Prim.Native.Nat.{ℕ, suc, ◌+◌, ◌-◌, ◌≤◌}
use native.Mathlib.Omega.{arith}
use borrow.Author.Tests.{ne_eqb}
use lib.Dec.{eqb}
use lib.ListN.{length}
use Rattle.spec.specs.Rose.{nil, cons, size, At}
use Rattle.spec.specs.Tree
use Rattle.spec.specs.Tree.{Expr, const, read, fresh, dict, if_then, type_is, logic, seq, oper, call, rose_e}
use Rattle.spec.specs.Tree.{Stmts, no_stmts, more_stmts, if_stmt, count_s}
use Rattle.spec.specs.Proper.{ValidExpr}
use Rattle.spec.specs.Verdict.{pure}
use Rattle.spec.specs.Pass.{const_condition, expr_condition, new_bool, nodes_of, seq_expr, if_left}
use Rattle.spec.specs.Pass as Pass
use Rattle.spec.specs.PassStmts.{one, is_empty, if_stays, if_stmt_left, if_stmt_step, expr_stmts, if_stmts}
use Rattle.spec.specs.Weight.{row_words}
use Rattle.spec.proofs.Passed.{new_valid, valid_parts, one_part, two_parts}
use Rattle.spec.proofs.Rows.{made_words}
use Rattle.spec.proofs.Trees.{expr_unique}
use Rattle.spec.proofs.Unroll.{some_nodes, nodes_c, new_nodes, if_stmt_unrolled}
use Rattle.spec.proofs.Weights.{expr_weight, some_weight, new_expr_weight}
use Rattle.ir.specs.Standing.{SomeExprs, SkipOf}
use Rattle.expr_bool.specs.Asked.{ExprAt, swapped}
use Rattle.expr_bool.specs.declared.Condition.TheVariants as condition
use Rattle.if_expr.specs.Arms.{Tested, is_not, is_seq, is_plain, TestAsk, TestDone}
use Rattle.if_expr.specs.declared.Test.TheVariants as test
use Rattle.runs.specs.Held.{Holds, Kept, Within, Backed, BackDone, PlaceDone}
use Rattle.runs.specs.Held.{WriteAsk, WriteDone}
use Rattle.expr_bool.specs.declared.Arms.{Arms}
use Rattle.runs.specs.declared.Run.{Run}
use Rattle.stmt.specs.Made.{AtBack, ExprAsk, ExprDone, ArmsHold, IfAsk, IfDone, Left}
use Rattle.runs.proofs.Holding.{kept_trans, kept_same, kept_at, holds_kept}

-- ---- answers by their case

const_case : (v : List ℕ) (high : ℕ) (b : Bool) (c : Pass.Condition) → Backed v high c (condition.Const b)
    → c ≡ const_condition b
const_case v high b (const_condition t) p = let q : b ≡ t = cc in ap const_condition (sym q)
const_case v high b (expr_condition e) p = let q = p.0 in let z : ◌≡◌ {A = ℕ} 0 1 = cc in absurd (omega arith)

expr_case : (v : List ℕ) (high back : ℕ) (c : Pass.Condition) → Backed v high c (condition.Expr back)
    → (e : Expr) × (c ≡ expr_condition e) × (back ≡ high - size (rose_e e)) × At v back (rose_e e)
expr_case v high back (const_condition t) p = let z : ◌≡◌ {A = ℕ} 0 1 = cc in absurd (omega arith)
expr_case v high back (expr_condition e) p =
    let q = p.0 in
    let r : back ≡ high - size (rose_e e) = cc in
    (e, refl, r, subst (λ (i : ℕ). At v i (rose_e e)) (sym r) p.1)

not_case : {w : List ℕ} {at part : ℕ} {e : Expr} → Tested w at e (test.Not part)
    → (x : Expr) × (e ≡ Tree.not x) × (part ≡ at + 1)
not_case (is_not x part p) = (x, refl, p)

seq_case : {w : List ℕ} {at part : ℕ} {e : Expr} → Tested w at e (test.Seq part)
    → (p : Expr) × (x : Expr) × (e ≡ seq p x) × (part ≡ at + 1)
seq_case (is_seq p x part q) = (p, x, refl, q)

-- nothing is taken off
abbrev pub Plain : Expr → Type 0
Plain e = (more : Expr → Expr → Expr → Expr) (t f : Expr) → if_left more e t f ≡ if_then e t f

pub plain_case : {w : List ℕ} {at : ℕ} {e : Expr} → Tested w at e test.Stays → Plain e
plain_case (is_plain e p) = p

-- so an If over it stays
no_seq : (b : Bool) (p x : Expr) → cond b (const Tree.none) (seq p (const Tree.none))
    ≡ if_then (seq p x) (const Tree.none) (const Tree.none) → ⊥
no_seq true p x e = let z : ◌≡◌ {A = ℕ} 0 1 = cc in omega arith
no_seq false p x e = let z : ◌≡◌ {A = ℕ} 0 1 = cc in omega arith

pub plain_left : (e : Expr) → Plain e → (x y : Stmts) → if_stmt_left expr_stmts if_stmts e x y ≡ if_stays expr_stmts e
    x y
unfolding if_left seq_expr if_stmt_left
plain_left (Tree.not e) p x y =
    let q = p (λ c t f. const Tree.none) (const Tree.none) (const Tree.none) in
    let z : ◌≡◌ {A = ℕ} 0 1 = cc in
    absurd (omega arith)
plain_left (seq l e) p x y =
    absurd (no_seq (pure l) l e (p (λ c t f. const Tree.none) (const Tree.none) (const Tree.none)))
plain_left (const c) p x y = refl
plain_left (read r) p x y = refl
plain_left (fresh k es) p x y = refl
plain_left (dict es) p x y = refl
plain_left (if_then c t f) p x y = refl
plain_left (type_is u e) p x y = refl
plain_left (logic l s t) p x y = refl
plain_left (oper h pay es) p x y = refl
plain_left (call names args kwargs g es) p x y = refl

empty_count : (ss : Stmts) → is_empty ss ≡ eqb (count_s ss) 0
unfolding is_empty
empty_count no_stmts = refl
empty_count (more_stmts s ss) = sym (ne_eqb (suc (count_s ss)) 0 (λ (z : suc (count_s ss) ≡ 0). omega arith))

-- ---- arms

module _ {w v : List ℕ} {low high top : ℕ} {arms : Arms Run} {x y : Stmts} where
  pub arms_kept : {lower crown : ℕ} → lower ≤ high → top ≤ crown → Kept low lower top w v → ArmsHold w high arms top x y
      → ArmsHold v high arms crown x y
  arms_kept p q k a = record {
    yes_holds = holds_kept k (omega (arith, a.yes_above)) a.yes_below a.yes_holds;
    no_holds = holds_kept k (omega (arith, a.no_above)) a.no_below a.no_holds;
    yes_above = a.yes_above;
    no_above = a.no_above;
    yes_below = omega (arith, a.yes_below);
    no_below = omega (arith, a.no_below);
  }

pub arms_swapped : {w : List ℕ} {high top : ℕ} {arms : Arms Run} {x y : Stmts} → ArmsHold w high arms top x y
    → ArmsHold w high (swapped arms) top y x
arms_swapped a = record {
  yes_holds = a.no_holds;
  no_holds = a.yes_holds;
  yes_above = a.no_above;
  no_above = a.yes_above;
  yes_below = a.no_below;
  no_below = a.yes_below;
}

-- one of them
arm_by : (b : Bool) {w : List ℕ} {high top : ℕ} {arms : Arms Run} {x y : Stmts} → ArmsHold w high arms top x y
    → Holds w (cond b arms.yes arms.no) (cond b x y)
arm_by true a = a.yes_holds
arm_by false a = a.no_holds

-- ---- if_stmt

module _ {w : List ℕ} {low at high : ℕ} {arms : Arms Run} {top nodes : ℕ} (a : IfAsk w low at high arms top nodes) where
  pub if_some : 1 ≤ nodes
  if_some = omega (arith, some_nodes a.tree, a.few)

  -- no other condition stands there
  pub if_finish : {v : List ℕ} {r : Run} → Kept low high top w v → r.at ≡ top
      → ((x y : Stmts) → ArmsHold w high arms top x y → Holds v r (if_stmts a.tree x y))
      → IfDone w v low at high arms top r
  if_finish {v} {r} k b h = record {
    kept = k;
    begins = b;
    right = λ c x y i m.
        let s = a.within in
        let same = expr_unique w at a.tree c s.stands.valid i.stands.valid s.stands.here
        i.stands.here (omega (arith, s.inner, a.below, a.room)) (omega (arith, i.inner, a.below, a.room)) in
        subst (λ (e : Expr). Holds v r (if_stmts e x y)) same (h x y m);
  }

  -- a constant
  module _ {v : List ℕ} (lv : length v ≡ length w) {b : Bool} (d : BackDone w v low at high top (condition.Const b))
      {arm : Run} (e : arm ≡ cond b arms.yes arms.no) where
    arm_holds : {x y : Stmts} → ArmsHold w high arms top x y → Holds v arm (cond b x y)
    arm_holds {x} {y} m =
        let kept : ArmsHold v high arms top x y = arms_kept (omega arith) (omega arith) d.kept m in
        subst (λ (r : Run). Holds v r (cond b x y)) (sym e) (arm_by b kept)

    const_so : (x y : Stmts) → if_stmts a.tree x y ≡ cond b x y
    unfolding if_stmt_step
    const_so x y =
        if_stmt_unrolled a.tree x y
        ∙ ap (λ (c : Pass.Condition). if_stmt_step expr_stmts if_stmts c x y)
        (const_case v high b (new_bool a.tree) (d.right a.tree a.within))

    pub const_done : {u : List ℕ} {r : Run} → PlaceDone v u arm top r → IfDone w u low at high arms top r
    const_done {u} {r} g =
        if_finish
        (kept_trans d.kept
        (kept_same low high (omega (arith, a.within.order, a.within.inner, a.below)) g.frame))
        g.begins
        (λ x y m. subst (Holds u r) (sym (const_so x y)) (g.right (cond b x y) (arm_holds m)))

pub left_of : {w : List ℕ} {low at high : ℕ} {arms : Arms Run} {top nodes : ℕ} {v : List ℕ} {back : ℕ}
    → IfAsk w low at high arms top nodes → length v ≡ length w
    → BackDone w v low at high top (condition.Expr back)
    → (e : Expr) × Left w low at high arms top nodes v back e
unfolding if_stmt_step nodes_c
left_of {high = high} {v = v} {back = back} a lv d =
    let c = a.tree in
    let (e, is, place, here) = expr_case v high back (new_bool c) (d.right c a.within) in
    let light = new_expr_weight c e is in
    let few : nodes_of e ≤ nodes_of c = subst (λ (n : Pass.Condition). nodes_c n ≤ nodes_of c) is (new_nodes c) in (
      e,
      record {
        asked = a;
        kept = d.kept;
        long = lv;
        so = λ x y.
            if_stmt_unrolled c x y ∙ ap (λ (n : Pass.Condition). if_stmt_step expr_stmts if_stmts n x y) is;
        valid = new_valid c e a.within.stands.valid is;
        here = here;
        ends = omega (arith, place, expr_weight e, light, a.within.fits);
        fits = omega (arith, light, a.within.fits);
        room = omega (arith, light, a.room, lv);
        few = omega (arith, few, a.few);
      },
    )

module _ {w : List ℕ} {low at high : ℕ} {arms : Arms Run} {top nodes : ℕ} {v : List ℕ} {back : ℕ} {e : Expr}
    (l : Left w low at high arms top nodes v back e) where
  left_stands : ExprAt v back e
  left_stands = record { valid = l.valid; here = l.here }

  inside : high ≤ length v
  inside = omega (arith, l.asked.below, l.room)

  order : low ≤ back
  order = omega (arith, l.ends, l.fits, expr_weight e)

  pub left_test : TestAsk v back
  left_test = record { tree = e; stands = left_stands; inside = omega (arith, l.ends, inside) }

  pub left_not : {part : ℕ} → TestDone v back (test.Not part)
      → (x : Expr) × (part ≡ back + 1) × Left w low at high arms top nodes v back (Tree.not x)
  left_not d =
      let (x, is, past) = not_case (d.right e left_stands) in
      (x, past, subst (Left w low at high arms top nodes v back) is l)

  pub left_seq : {part : ℕ} → TestDone v back (test.Seq part)
      → (p : Expr) × (x : Expr) × (part ≡ back + 1) × Left w low at high arms top nodes v back (seq p x)
  left_seq d =
      let (p, x, is, past) = seq_case (d.right e left_stands) in
      (p, x, past, subst (Left w low at high arms top nodes v back) is l)

  pub arms_left : {x y : Stmts} → ArmsHold w high arms top x y → ArmsHold v high arms top x y
  arms_left m = arms_kept (omega arith) (omega arith) l.kept m

  -- nothing is taken off it
  module _ (d : TestDone v back test.Stays) where
    whole_so : (x y : Stmts) → if_stmts l.asked.tree x y ≡ if_stays expr_stmts e x y
    whole_so x y = l.so x y ∙ plain_left e (plain_case (d.right e left_stands)) x y

    -- whether both arms are empty
    both_empty : {b : Bool} {x y : Stmts} → (eqb arms.yes.count 0 && eqb arms.no.count 0) ≡ b
        → ArmsHold w high arms top x y → (is_empty x && is_empty y) ≡ b
    both_empty {b} {x} {y} z m =
        ap₂ (λ (s t : Bool). s && t) (empty_count x) (empty_count y)
        ∙ ap₂ (λ (s t : ℕ). eqb s 0 && eqb t 0) (sym m.yes_holds.counts) (sym m.no_holds.counts) ∙ z

    stays_so : {b : Bool} {x y : Stmts} → (eqb arms.yes.count 0 && eqb arms.no.count 0) ≡ b
        → ArmsHold w high arms top x y → if_stmts l.asked.tree x y ≡ cond b (expr_stmts e) (one (if_stmt e x y))
    unfolding if_stays
    stays_so {b} {x} {y} z m =
        whole_so x y ∙ ap (λ (t : Bool). cond t (expr_stmts e) (one (if_stmt e x y))) (both_empty z m)

    pub bare_done : {u : List ℕ} {r : Run} → (eqb arms.yes.count 0 && eqb arms.no.count 0) ≡ true
        → ExprDone v u low back high top r → IfDone w u low at high arms top r
    bare_done {u} {r} z g =
        if_finish l.asked (kept_trans l.kept g.kept) g.begins
        (λ x y m. subst (Holds u r) (sym (stays_so z m))
        (g.right e (record {
          is = record { valid = l.valid; here = l.here; ends = l.ends };
          order = order;
          fits = l.fits;
        })))

    pub whole_done : {u : List ℕ} {r : Run} → (eqb arms.yes.count 0 && eqb arms.no.count 0) ≡ false
        → WriteDone v u back high arms top r → IfDone w u low at high arms top r
    whole_done {u} {r} z g =
        if_finish l.asked
        (kept_trans l.kept (kept_same low high (omega (arith, order, l.ends, l.asked.below)) g.frame))
        g.begins
        (λ x y m. subst (Holds u r) (sym (stays_so z m))
        (g.right e x y (record { valid = l.valid; here = l.here; ends = l.ends }) (arms_left m).yes_holds
        (arms_left m).no_holds))

  pub bare_ask : ExprAsk v low back high top nodes
  bare_ask = record {
    tree = e;
    back = record {
      is = record { valid = l.valid; here = l.here; ends = l.ends };
      order = order;
      fits = l.fits;
    };
    below = l.asked.below;
    room = omega (arith, l.room);
    few = l.few;
    short = omega (arith, l.asked.short, l.long);
  }

  pub whole_ask : WriteAsk v back high arms top
  whole_ask = record {
    tree = e;
    yes_list = l.asked.yes_list;
    no_list = l.asked.no_list;
    is = record { valid = l.valid; here = l.here; ends = l.ends };
    yes_holds = (arms_left l.asked.held).yes_holds;
    no_holds = (arms_left l.asked.held).no_holds;
    below = l.asked.below;
    yes_below = l.asked.held.yes_below;
    no_below = l.asked.held.no_below;
    room = omega (arith, l.room, expr_weight e, some_weight e);
    short = omega (arith, l.asked.short, l.long);
  }

-- Not: the arms change places
module _ {w : List ℕ} {low at high : ℕ} {arms : Arms Run} {top nodes : ℕ} {v : List ℕ} {back : ℕ} {x : Expr} {part : ℕ}
    (l : Left w low at high arms top nodes v back (Tree.not x)) (past : part ≡ back + 1) where
  pub not_within : Within v low part high x
  not_within = record {
    stands = record {
      valid = one_part x (valid_parts (Tree.not x) l.valid);
      here = subst (λ (i : ℕ). At v i (rose_e x)) (sym past) l.here.1.0;
    };
    order = omega (arith, past, order l);
    inner = omega (arith, past, l.ends);
    fits = omega (arith, l.fits);
  }

  pub not_ask : IfAsk v low part high (swapped arms) top (nodes - 1)
  unfolding nodes_of
  not_ask = record {
    tree = x;
    yes_list = l.asked.no_list;
    no_list = l.asked.yes_list;
    within = not_within;
    held = arms_swapped (arms_left l l.asked.held);
    below = l.asked.below;
    room = omega (arith, l.room);
    few = omega (arith, l.few);
    short = omega (arith, l.asked.short, l.long);
  }

-- Seq: the left part's statements go ahead
module _ {w : List ℕ} {low at high : ℕ} {arms : Arms Run} {top nodes : ℕ} {v : List ℕ} {back : ℕ} {p x : Expr}
    {first : ℕ} (l : Left w low at high arms top nodes v back (seq p x)) (past : first ≡ back + 1) where
  both : ValidExpr p × ValidExpr x
  both = two_parts p x (valid_parts (seq p x) l.valid)

  ahead_here : At v first (rose_e p)
  ahead_here = subst (λ (i : ℕ). At v i (rose_e p)) (sym past) l.here.1.0

  pub seq_skip : SomeExprs v first 1
  seq_skip = record {
    trees = cons (rose_e p) nil;
    valid = (both.0.1, tt);
    here = (ahead_here, tt);
    many = refl;
    inside = omega (arith, past, l.ends, inside l);
  }

  module _ {part : ℕ} (q : SkipOf v first 1 part) where
    skipped : part ≡ first + size (rose_e p)
    skipped =
        let z = q.of (cons (rose_e p) nil) (both.0.1, tt) (ahead_here, tt) refl in
        omega (arith, z)

    pub ends : high ≡ part + size (rose_e x)
    ends = omega (arith, skipped, past, l.ends)

    ahead_back : AtBack v low first part p
    ahead_back = record {
      is = record { valid = both.0; here = ahead_here; ends = skipped };
      order = omega (arith, past, order l);
      fits = omega (arith, ends, l.fits, expr_weight x);
    }

    pub ahead_ask : ExprAsk v low first part top (nodes - 1)
    unfolding nodes_of
    ahead_ask = record {
      tree = p;
      back = ahead_back;
      below = omega (arith, ends, l.asked.below);
      room = omega (arith, l.room);
      few = omega (arith, l.few, some_nodes x);
      short = omega (arith, l.asked.short, l.long);
    }

    module _ {u : List ℕ} (lu : length u ≡ length v) {ahead : Run} (d : ExprDone v u low first part top ahead) where
      pub ahead_holds : Holds u ahead (expr_stmts p)
      ahead_holds = d.right p ahead_back

      pub behind : ahead.end ≡ top + row_words (expr_stmts p)
      behind = omega (arith, ahead_holds.ends, d.begins)

      pub rest_within : Within u low part high x
      rest_within = record {
        stands = record {
          valid = both.1;
          here = kept_at d.kept (rose_e x) part (omega arith) (omega (arith, ends, l.asked.below))
              (subst (λ (i : ℕ). At v i (rose_e x)) (omega (arith, skipped, past)) l.here.1.1.0);
        };
        order = omega (arith, skipped, past, order l);
        inner = omega (arith, ends);
        fits = omega (arith, l.fits);
      }

      pub arms_rest : {s t : Stmts} → ArmsHold w high arms top s t → ArmsHold u high arms ahead.end s t
      arms_rest m = arms_kept (omega (arith, ends)) (omega (arith, behind)) d.kept (arms_left l m)

      pub rest_ask : IfAsk u low part high arms ahead.end (nodes - 1)
      unfolding nodes_of
      rest_ask = record {
        tree = x;
        yes_list = l.asked.yes_list;
        no_list = l.asked.no_list;
        within = rest_within;
        held = arms_rest l.asked.held;
        below = omega (arith, behind, l.asked.below);
        room = omega (arith, l.room, behind, made_words p, lu);
        few = omega (arith, l.few, some_nodes p);
        short = omega (arith, l.asked.short, l.long, lu);
      }
