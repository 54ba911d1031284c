-- Document 02, 2.7, 'Nothing dead left standing': what one pass makes of any rule has nothing dead in it
-- (`pruned_nothing_dead`). The test that computes says the same as `NothingDead`: a rule that passes has it
-- (`dead_tested`), and a rule that has it passes (`dead_found`).
-- Assumes nothing.
use mathlib.Core.Bool.{Bool, true, false, not, cond, ◌&&◌, false≢true}
use mathlib.Core.List.{List}
use mathlib.Core.Path.{◌≡◌, refl, sym}
use Prim.Native.Nat.{ℕ, zero, suc, ◌+◌, ◌≤◌, ◌<◌}
use native.Mathlib.Omega.{arith}
use Rattle.spec.specs.Tree
use Rattle.spec.specs.Tree.{Logic, and, or}
use Rattle.spec.specs.Tree.{Expr, fresh, type_is, logic, seq, call}
use Rattle.spec.specs.Tree.{Exprs, no_exprs, more_exprs, Target}
use Rattle.spec.specs.Tree.{Stmt, possible_gc, break, continue, return, expr, assign, assign_modify, if_stmt, for}
use Rattle.spec.specs.Tree.{Stmts, no_stmts, more_stmts}
use Rattle.spec.specs.Verdict.{is_type_function, is_plain, pure, empty_iterable}
use Rattle.spec.specs.Pass.{Condition, const_condition, expr_condition, new_bool, nodes_of, nodes_in}
use Rattle.spec.specs.Pass.{optimize_expr, optimize_target}
use Rattle.spec.specs.PassStmts.{one, is_empty, is_exit, is_terminal, join_stmts, extend, part_stmts, logic_stmts}
use Rattle.spec.specs.PassStmts.{call_stmts, expr_step, if_stays, if_stmt_left, if_stmt_step, expr_bounded}
use Rattle.spec.specs.PassStmts.{if_stmt_bounded, expr_stmts, if_stmts, for_stmts}
use Rattle.spec.specs.PassStmts.{optimize_stmt, optimize_behind, optimize}
use Rattle.spec.specs.NothingDead.{Occurs, first, later, in_then, in_else, in_loop, NothingDead}
use Rattle.spec.specs.NothingDead.{is_not_or_seq, nothing_dead, alive}
use Rattle.spec.proofs.Outcomes.{both}
use Rattle.spec.proofs.Unroll.{some_nodes, nodes_c, new_nodes}

-- ---- the test, taken apart

-- what the test finds of a statement and of what stands behind it
record Right (s : Stmt) (behind : Stmts) : Type 0 where
  last : cond (is_exit s) (is_empty behind) true ≡ true
  lives : alive s ≡ true

is_false : (b : Bool) → not b ≡ true → b ≡ false
is_false true e = absurd (false≢true e)
is_false false e = refl

more_parts : (s : Stmt) (ss : Stmts) → nothing_dead (more_stmts s ss) ≡ true → Right s ss × (nothing_dead ss ≡ true)
unfolding nothing_dead
more_parts s ss p =
    let (last, rest) = both (cond (is_exit s) (is_empty ss) true) (alive s && nothing_dead ss) p in
    let (lives, all) = both (alive s) (nothing_dead ss) rest in
    (record { last = last; lives = lives }, all)

-- of an If: an arm has a statement, the condition is neither Not nor Seq, and nothing in the arms is dead
record RightIf (c : Expr) (t f : Stmts) : Type 0 where
  arm : is_empty t && is_empty f ≡ false
  stays : is_not_or_seq c ≡ false
  then : nothing_dead t ≡ true
  else : nothing_dead f ≡ true

if_parts : (c : Expr) (t f : Stmts) → alive (if_stmt c t f) ≡ true → RightIf c t f
unfolding nothing_dead
if_parts c t f p =
    let (arm, rest) = both (not (is_empty t && is_empty f)) _ p in
    let (stays, arms) = both (not (is_not_or_seq c)) (nothing_dead t && nothing_dead f) rest in
    let (x, y) = both (nothing_dead t) (nothing_dead f) arms in
    record { arm = is_false _ arm; stays = is_false (is_not_or_seq c) stays; then = x; else = y }

-- of a loop: its iterable may have rounds, and nothing in the body is dead
for_parts : (x : Target) (e : Expr) (b : Stmts) → alive (for x e b) ≡ true
    → (empty_iterable e ≡ false) × (nothing_dead b ≡ true)
unfolding nothing_dead
for_parts x e b p =
    let (some, body) = both (not (empty_iterable e)) (nothing_dead b) p in
    (is_false (empty_iterable e) some, body)

-- ---- a rule that passes the test has nothing dead in it

occurs_right : {rule : Stmts} {s : Stmt} {behind : Stmts} → Occurs rule s behind → nothing_dead rule ≡ true
    → Right s behind
occurs_right (first {s} {behind}) p = (more_parts s behind p).0
occurs_right (later {r} {ss = ss} o) p = occurs_right o (more_parts r ss p).1
occurs_right (in_then {c} {t} {f} {ss} o) p =
    occurs_right o (if_parts c t f (more_parts (if_stmt c t f) ss p).0.lives).then
occurs_right (in_else {c} {t} {f} {ss} o) p =
    occurs_right o (if_parts c t f (more_parts (if_stmt c t f) ss p).0.lives).else
occurs_right (in_loop {x} {e} {b} {ss} o) p =
    occurs_right o (for_parts x e b (more_parts (for x e b) ss p).0.lives).1

empty_none : (ss : Stmts) → is_empty ss ≡ true → ss ≡ no_stmts
unfolding is_empty
empty_none no_stmts e = refl
empty_none (more_stmts s ss) e = absurd (false≢true e)

pub dead_tested : (rule : Stmts) → nothing_dead rule ≡ true → NothingDead rule
unfolding alive is_exit is_empty
dead_tested rule p = record {
  after_break = λ behind o. empty_none behind (occurs_right o p).last;
  after_continue = λ behind o. empty_none behind (occurs_right o p).last;
  after_return = λ e behind o. empty_none behind (occurs_right o p).last;
  no_pure = λ e behind o. is_false (pure e) (occurs_right o p).lives;
  no_empty_if = λ c behind o. false≢true (sym (if_parts c no_stmts no_stmts (occurs_right o p).lives).arm);
  no_not = λ e t f behind o. false≢true (sym (if_parts (Tree.not e) t f (occurs_right o p).lives).stays);
  no_seq = λ x y t f behind o. false≢true (sym (if_parts (seq x y) t f (occurs_right o p).lives).stays);
  no_empty_loop = λ x e b behind o. (for_parts x e b (occurs_right o p).lives).0;
}

-- ---- a rule with nothing dead in it passes

more_made : (s : Stmt) (ss : Stmts) → Right s ss → nothing_dead ss ≡ true → nothing_dead (more_stmts s ss) ≡ true
unfolding nothing_dead
more_made s ss r p = simp (r.last, r.lives, p)

if_made : (c : Expr) (t f : Stmts) → RightIf c t f → alive (if_stmt c t f) ≡ true
unfolding nothing_dead
if_made c t f r = simp (r.arm, r.stays, r.then, r.else)

for_made : (x : Target) (e : Expr) (b : Stmts) → empty_iterable e ≡ false → nothing_dead b ≡ true
    → alive (for x e b) ≡ true
unfolding nothing_dead
for_made x e b some p = simp (some, p)

-- what holds of a rule holds of the lists within it
within : {rule ss : Stmts} → ((s : Stmt) (behind : Stmts) → Occurs ss s behind → Occurs rule s behind)
    → NothingDead rule → NothingDead ss
within i d = record {
  after_break = λ behind o. d.after_break behind (i _ behind o);
  after_continue = λ behind o. d.after_continue behind (i _ behind o);
  after_return = λ e behind o. d.after_return e behind (i _ behind o);
  no_pure = λ e behind o. d.no_pure e behind (i (expr e) behind o);
  no_empty_if = λ c behind o. d.no_empty_if c behind (i (if_stmt c no_stmts no_stmts) behind o);
  no_not = λ e t f behind o. d.no_not e t f behind (i (if_stmt (Tree.not e) t f) behind o);
  no_seq = λ x y t f behind o. d.no_seq x y t f behind (i (if_stmt (seq x y) t f) behind o);
  no_empty_loop = λ x e b behind o. d.no_empty_loop x e b behind (i (for x e b) behind o);
}

none_empty : (ss : Stmts) → ss ≡ no_stmts → is_empty ss ≡ true
unfolding is_empty
none_empty ss e = rw e

last_found : (s : Stmt) (ss : Stmts) → NothingDead (more_stmts s ss) → cond (is_exit s) (is_empty ss) true ≡ true
unfolding is_exit
last_found break ss d = none_empty ss (d.after_break ss first)
last_found continue ss d = none_empty ss (d.after_continue ss first)
last_found (return e) ss d = none_empty ss (d.after_return e ss first)
last_found s ss d = refl

arm_found : (c : Expr) (t f ss : Stmts) → NothingDead (more_stmts (if_stmt c t f) ss) → is_empty t && is_empty f ≡ false
unfolding is_empty
arm_found c no_stmts no_stmts ss d = absurd (d.no_empty_if c ss first)
arm_found c no_stmts (more_stmts s f) ss d = refl
arm_found c (more_stmts s t) f ss d = refl

condition_found : (c : Expr) (t f ss : Stmts) → NothingDead (more_stmts (if_stmt c t f) ss) → is_not_or_seq c ≡ false
condition_found (Tree.not e) t f ss d = absurd (d.no_not e t f ss first)
condition_found (seq x y) t f ss d = absurd (d.no_seq x y t f ss first)
condition_found c t f ss d = refl

mutual
  unfolding nothing_dead

  pub dead_found : (rule : Stmts) → NothingDead rule → nothing_dead rule ≡ true
  dead_found no_stmts d = refl
  dead_found (more_stmts s ss) d =
      more_made s ss (record { last = last_found s ss d; lives = alive_found s ss d })
      (dead_found ss (within (λ r behind o. later o) d))

  alive_found : (s : Stmt) (ss : Stmts) → NothingDead (more_stmts s ss) → alive s ≡ true
  alive_found (expr e) ss d = simp (d.no_pure e ss first)
  alive_found (if_stmt c t f) ss d =
      if_made c t f (record {
        arm = arm_found c t f ss d;
        stays = condition_found c t f ss d;
        then = dead_found t (within (λ r behind o. in_then o) d);
        else = dead_found f (within (λ r behind o. in_else o) d);
      })
  alive_found (for x e b) ss d =
      for_made x e b (d.no_empty_loop x e b ss first) (dead_found b (within (λ r behind o. in_loop o) d))
  alive_found s ss d = refl

-- ---- lists put together

-- the list passes the test
abbrev Free : Stmts → Type 0
Free ss = nothing_dead ss ≡ true

none_free : Free no_stmts
unfolding nothing_dead
none_free = refl

one_free : (s : Stmt) → alive s ≡ true → Free (one s)
unfolding one nothing_dead is_empty
one_free s p = more_made s no_stmts (record { last = none_behind (is_exit s); lives = p }) refl
  where
    none_behind : (exit : Bool) → cond exit true true ≡ true
    none_behind true = refl
    none_behind false = refl

cond_free : (b : Bool) (ss rs : Stmts) → (b ≡ true → Free ss) → (b ≡ false → Free rs) → Free (cond b ss rs)
cond_free true ss rs p q = p refl
cond_free false ss rs p q = q refl

join_free : (ss rs : Stmts) → is_terminal ss ≡ false → Free ss → Free rs → Free (join_stmts ss rs)
unfolding is_terminal join_stmts is_empty
join_free no_stmts rs e p q = q
join_free (more_stmts s no_stmts) rs e p q =
    more_made s rs (record { last = simp e; lives = (more_parts s no_stmts p).0.lives }) q
join_free (more_stmts s (more_stmts r ss)) rs e p q =
    let (right, rest) = more_parts s (more_stmts r ss) p in
    more_made s (join_stmts (more_stmts r ss) rs) (record { last = right.last; lives = right.lives })
    (join_free (more_stmts r ss) rs e rest q)

extend_free : (ss rs : Stmts) → Free ss → Free rs → Free (extend ss rs)
unfolding extend
extend_free ss rs p q = cond_free (is_terminal ss) ss (join_stmts ss rs) (λ e. p) (λ e. join_free ss rs e p q)

-- ---- expr and if_stmt

-- an expression that stays a statement is not pure
stays_free : (e : Expr) → pure e ≡ false → Free (one (expr e))
unfolding alive
stays_free e p = one_free (expr e) (simp p)

-- one step, if nothing is dead in what it asks for; `bound` is as in expr_bounded, and is enough for the parts
module _ (bound : ℕ) (more : Expr → Stmts) (moreIf : Expr → Stmts → Stmts → Stmts)
    (ih : (x : Expr) → nodes_of x + nodes_of x ≤ bound → Free (more x))
    (ihIf : (c : Expr) (t f : Stmts) → nodes_of c + nodes_of c < bound → Free t → Free f → Free (moreIf c t f))
  where
    part_free : (before : Stmts) (es : Exprs) → nodes_in es + nodes_in es ≤ bound → Free before
        → Free (part_stmts more before es)
    unfolding part_stmts nodes_of
    part_free before no_exprs n p = p
    part_free before (more_exprs e es) n p =
        part_free (extend before (more e)) es (omega arith) (extend_free before (more e) p (ih e (omega arith)))

    logic_free : (l : Logic) (x : Expr) (right : Stmts) → nodes_of x + nodes_of x < bound → Free right
        → Free (logic_stmts moreIf l x right)
    unfolding logic_stmts
    logic_free and x right n p = ihIf x right no_stmts n p none_free
    logic_free or x right n p = ihIf x no_stmts right n none_free p

    call_free : (names : List ℕ) (args kwargs : Bool) (f : Expr) (es : Exprs) → nodes_in es + nodes_in es ≤ bound
        → pure (call names args kwargs f es) ≡ false → Free (call_stmts more names args kwargs f es)
    unfolding call_stmts nodes_of
    call_free names args kwargs f no_exprs n p = stays_free (call names args kwargs f no_exprs) p
    call_free names args kwargs f (more_exprs e no_exprs) n p =
        cond_free (is_type_function f && is_plain names args kwargs) (more e)
        (one (expr (call names args kwargs f (more_exprs e no_exprs)))) (λ t. ih e (omega arith))
        (λ t. stays_free (call names args kwargs f (more_exprs e no_exprs)) p)
    call_free names args kwargs f (more_exprs e (more_exprs x xs)) n p =
        stays_free (call names args kwargs f (more_exprs e (more_exprs x xs))) p

    step_free : (e : Expr) → nodes_of e + nodes_of e ≤ suc bound → pure e ≡ false → Free (expr_step more moreIf e)
    unfolding expr_step nodes_of
    step_free (fresh f es) n p = part_free no_stmts es (omega arith) none_free
    step_free (Tree.not e) n p = ih e (omega arith)
    step_free (type_is t e) n p = ih e (omega arith)
    step_free (logic l x y) n p = logic_free l x (more y) (omega arith) (ih y (omega arith))
    step_free (call names args kwargs f es) n p = call_free names args kwargs f es (omega arith) p
    step_free e n p = stays_free e p

    -- a condition that is neither Not nor Seq
    if_stays_free : (e : Expr) (t f : Stmts) → nodes_of e + nodes_of e ≤ bound → is_not_or_seq e ≡ false → Free t
        → Free f → Free (if_stays more e t f)
    unfolding if_stays
    if_stays_free e t f n stays p q =
        cond_free (is_empty t && is_empty f) (more e) (one (if_stmt e t f)) (λ b. ih e n)
        (λ b. one_free (if_stmt e t f) (if_made e t f (record { arm = b; stays = stays; then = p; else = q })))

    if_left_free : (e : Expr) (t f : Stmts) → nodes_of e + nodes_of e ≤ bound → Free t → Free f
        → Free (if_stmt_left more moreIf e t f)
    unfolding if_stmt_left nodes_of
    if_left_free (Tree.not e) t f n p q = ihIf e f t (omega arith) q p
    if_left_free (seq x e) t f n p q =
        extend_free (more x) (moreIf e t f) (ih x (omega arith)) (ihIf e t f (omega arith) p q)
    if_left_free e t f n p q = if_stays_free e t f n refl p q

    if_step_free : (s : Condition) (t f : Stmts) → nodes_c s + nodes_c s ≤ bound → Free t → Free f
        → Free (if_stmt_step more moreIf s t f)
    unfolding if_stmt_step nodes_c
    if_step_free (const_condition b) t f n p q = cond_free b t f (λ e. p) (λ e. q)
    if_step_free (expr_condition e) t f n p q = if_left_free e t f n p q

-- at every bound that is enough
mutual
  unfolding expr_bounded

  expr_bounded_free : (n : ℕ) (e : Expr) → nodes_of e + nodes_of e ≤ n → Free (expr_bounded n e)
  expr_bounded_free zero e p = let some = some_nodes e in absurd (omega arith)
  expr_bounded_free (suc n) e p =
      cond_free (pure e) no_stmts (expr_step (λ x. expr_bounded n x) (λ c t f. if_stmt_bounded n c t f) e)
      (λ b. none_free)
      (λ b. step_free n (λ x. expr_bounded n x) (λ c t f. if_stmt_bounded n c t f) (λ x q. expr_bounded_free n x q)
      (λ c t f q u v. if_bounded_free n c t f q u v) e p b)

  if_bounded_free : (n : ℕ) (c : Expr) (t f : Stmts) → nodes_of c + nodes_of c < n → Free t → Free f
      → Free (if_stmt_bounded n c t f)
  if_bounded_free zero c t f p u v = absurd (omega arith)
  if_bounded_free (suc n) c t f p u v =
      let fewer = new_nodes c in
      if_step_free n (λ x. expr_bounded n x) (λ d x y. if_stmt_bounded n d x y) (λ x q. expr_bounded_free n x q)
      (λ d x y q r s. if_bounded_free n d x y q r s) (new_bool c) t f (omega arith) u v

-- ---- optimize

expr_free : (e : Expr) → Free (expr_stmts e)
unfolding expr_stmts
expr_free e = expr_bounded_free (nodes_of e + nodes_of e) e (omega arith)

if_free : (c : Expr) (t f : Stmts) → Free t → Free f → Free (if_stmts c t f)
unfolding if_stmts
if_free c t f p q = if_bounded_free (suc (nodes_of c + nodes_of c)) c t f (omega arith) p q

for_free : (x : Target) (e : Expr) (b : Stmts) → Free b → Free (for_stmts x e b)
unfolding for_stmts
for_free x e b p =
    cond_free (empty_iterable e) no_stmts (one (for x e b)) (λ t. none_free)
    (λ t. one_free (for x e b) (for_made x e b t p))

mutual
  unfolding optimize_stmt alive

  stmt_free : (s : Stmt) → Free (optimize_stmt s)
  stmt_free possible_gc = one_free possible_gc refl
  stmt_free break = one_free break refl
  stmt_free continue = one_free continue refl
  stmt_free (return e) = one_free (return (optimize_expr e)) refl
  stmt_free (expr e) = expr_free (optimize_expr e)
  stmt_free (assign w t e) = one_free (assign w (optimize_target t) (optimize_expr e)) refl
  stmt_free (assign_modify op t e) = one_free (assign_modify op (optimize_target t) (optimize_expr e)) refl
  stmt_free (if_stmt c t f) =
      if_free (optimize_expr c) (optimize_behind t no_stmts) (optimize_behind f no_stmts)
      (behind_free t no_stmts none_free) (behind_free f no_stmts none_free)
  stmt_free (for t e b) =
      for_free (optimize_target t) (optimize_expr e) (optimize_behind b no_stmts) (behind_free b no_stmts none_free)

  -- the rest of a list, behind what is made already
  behind_free : (ss before : Stmts) → Free before → Free (optimize_behind ss before)
  behind_free no_stmts before p = p
  behind_free (more_stmts s ss) before p =
      cond_free (is_terminal before) before (optimize_behind ss (extend before (optimize_stmt s))) (λ e. p)
      (λ e. behind_free ss (extend before (optimize_stmt s)) (extend_free before (optimize_stmt s) p (stmt_free s)))

-- "Nothing dead left standing"
pub pruned_nothing_dead : (rule : Stmts) → NothingDead (optimize rule)
unfolding optimize
pruned_nothing_dead rule = dead_tested (optimize rule) (behind_free rule no_stmts none_free)
