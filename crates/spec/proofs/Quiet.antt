-- What the verdicts say of a run: a pure expression gives a value and leaves the record as it was, a known truth is
-- the truth of the value given so, a definitely-bool expression gives bool constants only, and an empty iterable gives
-- a value over which a loop makes no round.
-- Assumes nothing.
use mathlib.Core.Path.{◌≡◌, refl, sym, ◌∙◌, fun_ext, subst}
use mathlib.Core.Bool.{Bool, true, false, not, cond, ◌&&◌}
use mathlib.Core.List.{List}
use Prim.Native.Nat.{ℕ}
use lib.Dec.{eqb}
use Rattle.spec.specs.Tree
use Rattle.spec.specs.Tree.{Const, boolean, int, string, type_function, len_function, other, Fresh, Logic, and, or}
use Rattle.spec.specs.Tree.{Expr, const, read, fresh, dict, if_then, type_is, logic, seq, oper, call}
use Rattle.spec.specs.Tree.{Exprs, no_exprs, more_exprs}
use Rattle.spec.specs.Verdict.{is_none, is_type, is_bool, is_string, const_truth, const_empty, is_type_function}
use Rattle.spec.specs.Verdict.{is_plain, is_test, pure, pures, pure_one, known, known_if, opposite, joined, truth_of}
use Rattle.spec.specs.Verdict.{definitely_bool, empty_iterable}
use Rattle.spec.specs.Value.{Operation, oper_op, call_op, Value, constant, fresh_value, empty_dict}
use Rattle.spec.specs.Value.{Values, no_values, more_values, Answer, gives, fails, Record, Choice}
use Rattle.spec.specs.Value.{value_truth, value_type, value_empty, is_type_value, is_string_value, as_bool, answer_to}
use Rattle.spec.specs.Running.{done, Step, next, give, bind, answered, make, decides, perform, test}
use Rattle.spec.specs.Running.{make_dict, call_with, run, runs}
use Rattle.spec.specs.declared.Truth.{Truth}
use Rattle.spec.specs.declared.Truth.TheVariants as truth
use Rattle.spec.proofs.Outcomes.{both}
use Rattle.spec.proofs.Steps.{give_bind, bind_ext, bind_to, bind_assoc, Quiet, quiet_give, quiet_cond, bind_at}
use Rattle.spec.proofs.Steps.{quiet_bind, Knows, quiet_test, test_knows}

-- ---- tests and lists

-- a list with no parts
none_parts : (es : Exprs) → is_none es ≡ true → es ≡ no_exprs
none_parts no_exprs e = refl
none_parts (more_exprs x es) e = cc

-- the type function as an expression is a constant
type_callee : (f : Expr) → is_type_function f ≡ true → (c : Const) × (f ≡ const c) × (is_type c ≡ true)
type_callee (const c) e = (c, refl, e)
type_callee _ e = cc

-- what a loop makes no round over is no string
no_string_lem : (c : Const) → const_empty c ≡ true → is_string c ≡ false
no_string_lem (string t) e = cc
no_string_lem _ e = refl

pub empty_no_string : (v : Value) → value_empty v ≡ true → is_string_value v ≡ false
unfolding value_empty
empty_no_string (constant c) e = no_string_lem c e
empty_no_string _ e = refl

-- making a list or a tuple is quiet
pub quiet_make : (f : Fresh) (vs : Values) → Quiet (make f vs)
unfolding make
quiet_make f vs h = (fresh_value f vs h, refl)

module _ (C : Choice) where
  -- ---- type calls

  -- a step that gives the type text of what the step before gave
  abbrev pub text_of : Value → Step Value
  text_of v = give (constant (string (value_type C v)))

  -- one value handed to a type call
  one_argument : (o : Operation) (f v : Value)
      → bind (bind (give no_values) (λ vs. give (more_values v vs))) (λ vs. call_with C true o f vs) ≡ text_of v
  unfolding bind give next call_with
  one_argument o f v = refl

  module _ (names : List ℕ) (args kwargs : Bool) (plain : is_plain names args kwargs ≡ true) where
    -- with the callee a constant
    type_call_const : (c : Const) (x : Expr) → is_type c ≡ true
        → run C (call names args kwargs (const c) (more_exprs x no_exprs)) ≡ bind (run C x) text_of
    unfolding run is_type_value
    type_call_const c x e =
        let o = call_op names args kwargs in
        let parts : Value → Step Values = λ w. bind (give no_values) (λ vs. give (more_values w vs)) in
        give_bind (constant c)
        (λ v. bind (bind (run C x) parts) (λ vs. call_with C (is_type_value v && is_plain names args kwargs) o v vs))
        ∙ bind_assoc (run C x) parts
        (λ vs. call_with C (is_type c && is_plain names args kwargs) o (constant c) vs)
        ∙ bind_ext (run C x) (λ w. rw (e, plain) (one_argument o (constant c) w))

    -- a type call gives its argument's type text
    pub type_call_lem : (f x : Expr) → is_type_function f ≡ true
        → run C (call names args kwargs f (more_exprs x no_exprs)) ≡ bind (run C x) text_of
    type_call_lem f x e =
        let (c, q, t) = type_callee f e in
        subst (λ (g : Expr). run C (call names args kwargs g (more_exprs x no_exprs)) ≡ bind (run C x) text_of) (sym q)
        (type_call_const c x t)

    -- it is quiet where its argument is
    quiet_call : (f x : Expr) (es : Exprs) → is_type_function f ≡ true → is_none es ≡ true → Quiet (run C x)
        → Quiet (run C (call names args kwargs f (more_exprs x es)))
    quiet_call f x es t n q =
        subst (λ (xs : Exprs). Quiet (run C (call names args kwargs f (more_exprs x xs)))) (sym (none_parts es n))
        (subst (λ (m : Step Value). Quiet m) (sym (type_call_lem f x t))
        (quiet_bind (run C x) text_of q (λ v. quiet_give (constant (string (value_type C v))))))

  -- ---- pure

  -- the empty dict is made with no record
  pub run_no_pairs : (h : Record) → run C (dict no_exprs) h ≡ done (empty_dict h) h
  unfolding run bind give next make_dict
  run_no_pairs h = refl

  -- a dict with no parts
  quiet_dict : (es : Exprs) → is_none es ≡ true → Quiet (run C (dict es))
  quiet_dict no_exprs p = λ h. (empty_dict h, run_no_pairs h)
  quiet_dict (more_exprs x es) p = cc

  -- a pure expression gives a value and leaves the record as it was
  mutual
    unfolding pure run

    pub pure_quiet : (e : Expr) → pure e ≡ true → Quiet (run C e)
    pure_quiet (const c) p = quiet_give (constant c)
    pure_quiet (read s) p = cc
    pure_quiet (fresh f es) p =
        quiet_bind (runs C es) (λ vs. make f vs) (pures_quiet es p) (λ vs. quiet_make f vs)
    pure_quiet (dict es) p = quiet_dict es p
    pure_quiet (if_then c t f) p =
        let arms = (both (pure c) (pure t && pure f) p).1 in
        quiet_bind (test C (run C c)) (λ b. cond b (run C t) (run C f))
        (quiet_test C (run C c) (pure_quiet c (both (pure c) (pure t && pure f) p).0))
        (λ b. quiet_cond b (run C t) (run C f) (pure_quiet t (both (pure t) (pure f) arms).0)
        (pure_quiet f (both (pure t) (pure f) arms).1))
    pure_quiet (Tree.not e) p =
        quiet_bind (test C (run C e)) (λ b. give (constant (boolean (not b))))
        (quiet_test C (run C e) (pure_quiet e p)) (λ b. quiet_give (constant (boolean (not b))))
    pure_quiet (type_is t e) p =
        quiet_bind (run C e) (λ v. give (constant (boolean (eqb (value_type C v) t)))) (pure_quiet e p)
        (λ v. quiet_give (constant (boolean (eqb (value_type C v) t))))
    pure_quiet (logic l x y) p =
        quiet_bind (run C x) (λ v. cond (decides l (value_truth C v)) (give v) (run C y))
        (pure_quiet x (both (pure x) (pure y) p).0)
        (λ v. quiet_cond (decides l (value_truth C v)) (give v) (run C y) (quiet_give v)
        (pure_quiet y (both (pure x) (pure y) p).1))
    pure_quiet (seq x y) p =
        quiet_bind (run C x) (λ v. run C y) (pure_quiet x (both (pure x) (pure y) p).0)
        (λ v. pure_quiet y (both (pure x) (pure y) p).1)
    pure_quiet (oper h pay es) p = cc
    pure_quiet (call names args kwargs f es) p =
        let plain = is_plain names args kwargs in
        let rest = (both (is_type_function f) (plain && pure_one es) p).1 in
        one_quiet es names args kwargs f (both (is_type_function f) (plain && pure_one es) p).0
        (both plain (pure_one es) rest).0 (both plain (pure_one es) rest).1

    pub pures_quiet : (es : Exprs) → pures es ≡ true → Quiet (runs C es)
    pures_quiet no_exprs p = quiet_give no_values
    pures_quiet (more_exprs e es) p =
        quiet_bind (run C e) (λ v. bind (runs C es) (λ vs. give (more_values v vs)))
        (pure_quiet e (both (pure e) (pures es) p).0)
        (λ v. quiet_bind (runs C es) (λ vs. give (more_values v vs)) (pures_quiet es (both (pure e) (pures es) p).1)
        (λ vs. quiet_give (more_values v vs)))

    one_quiet : (es : Exprs) (names : List ℕ) (args kwargs : Bool) (f : Expr) → is_type_function f ≡ true
        → is_plain names args kwargs ≡ true → pure_one es ≡ true → Quiet (run C (call names args kwargs f es))
    one_quiet no_exprs names args kwargs f t q p = cc
    one_quiet (more_exprs e es) names args kwargs f t q p =
        quiet_call names args kwargs q f e es t (both (is_none es) (pure e) p).0
        (pure_quiet e (both (is_none es) (pure e) p).1)

  -- ---- truth

  -- what a truth says of a step
  abbrev pub Says : Truth → Step Value → Type 0
  Says truth.Yes m = Knows C m true
  Says truth.No m = Knows C m false
  Says truth.Unknown m = Unit {0}

  -- from what is known
  says_known : (b : Bool) (m : Step Value) → Knows C m b → Says (known b) m
  says_known true m q = q
  says_known false m q = q

  says_if : (p b : Bool) (m : Step Value) → (p ≡ true → Knows C m b) → Says (known_if p b) m
  says_if true b m q = says_known b m (q refl)
  says_if false b m q = tt

  -- constants, lists and tuples of pure parts, the empty dict
  knows_const : (c : Const) → Knows C (run C (const c)) (const_truth c)
  unfolding run give value_truth
  knows_const c h = (constant c, refl, refl)

  knows_fresh : (f : Fresh) (es : Exprs) → pures es ≡ true → Knows C (run C (fresh f es)) (not (is_none es))
  unfolding run bind give next make value_truth pure
  knows_fresh f no_exprs p h = (fresh_value f no_values h, refl, refl)
  knows_fresh f (more_exprs e es) p h =
      let (v, q) = pure_quiet e (both (pure e) (pures es) p).0 h in
      let (vs, r) = pures_quiet es (both (pure e) (pures es) p).1 h in
      (fresh_value f (more_values v vs) h, rw (q, r), refl)

  knows_dict : (es : Exprs) → is_none es ≡ true → Knows C (run C (dict es)) false
  unfolding value_truth
  knows_dict no_exprs p h = (empty_dict h, run_no_pairs h, refl)
  knows_dict (more_exprs e es) p h = cc

  -- Not of a known truth
  run_not : (e : Expr) (b : Bool) → Knows C (run C e) b → run C (Tree.not e) ≡ run C (const (boolean (not b)))
  unfolding run
  run_not e b q =
      bind_to (λ c. give (constant (boolean (not c)))) (test_knows C (run C e) b q)
      ∙ give_bind b (λ c. give (constant (boolean (not c))))

  knows_not : (e : Expr) (b : Bool) → Knows C (run C e) b → Knows C (run C (Tree.not e)) (not b)
  knows_not e b q =
      subst (λ (m : Step Value). Knows C m (not b)) (sym (run_not e b q)) (knows_const (boolean (not b)))

  says_not : (e : Expr) (t : Truth) → Says t (run C e) → Says (opposite t) (run C (Tree.not e))
  says_not e truth.Yes q = knows_not e true q
  says_not e truth.No q = knows_not e false q
  says_not e truth.Unknown q = tt

  -- a left side of known truth: And and Or are then one of their sides
  logic_pick : (d : Bool) (m n : Step Value) (v : Value) (h : Record) → m h ≡ done v h
      → cond d (give v) n h ≡ cond d m n h
  unfolding give
  logic_pick true m n v h e = sym e
  logic_pick false m n v h e = refl

  pub logic_left : (l : Logic) (x y : Expr) (b : Bool) → Knows C (run C x) b
      → run C (logic l x y) ≡ cond (decides l b) (run C x) (run C y)
  unfolding run
  logic_left l x y b q = fun_ext λ h.
      let (v, e, t) = q h in
      bind_at (run C x) (λ w. cond (decides l (value_truth C w)) (give w) (run C y)) h v e
      ∙ rw t (logic_pick (decides l b) (run C x) (run C y) v h e)

  -- And and Or of known truths
  says_logic : (l : Logic) (x y : Expr) (s t : Truth) → Says s (run C x) → Says t (run C y)
      → Says (joined l s t) (run C (logic l x y))
  unfolding decides
  says_logic and x y truth.Yes t p q =
      subst (λ (m : Step Value). Says t m) (sym (logic_left and x y true p)) q
  says_logic and x y truth.No t p q =
      subst (λ (m : Step Value). Knows C m false) (sym (logic_left and x y false p)) p
  says_logic and x y truth.Unknown t p q = tt
  says_logic or x y truth.Yes t p q =
      subst (λ (m : Step Value). Knows C m true) (sym (logic_left or x y true p)) p
  says_logic or x y truth.No t p q =
      subst (λ (m : Step Value). Says t m) (sym (logic_left or x y false p)) q
  says_logic or x y truth.Unknown t p q = tt

  -- a known truth is the truth of the value, which is given with the record left as it was
  pub truth_right : (e : Expr) → Says (truth_of e) (run C e)
  unfolding truth_of
  truth_right (const c) = says_known (const_truth c) (run C (const c)) (knows_const c)
  truth_right (fresh f es) = says_if (pures es) (not (is_none es)) (run C (fresh f es)) (knows_fresh f es)
  truth_right (dict es) = says_if (is_none es) false (run C (dict es)) (knows_dict es)
  truth_right (Tree.not e) = says_not e (truth_of e) (truth_right e)
  truth_right (logic l x y) = says_logic l x y (truth_of x) (truth_of y) (truth_right x) (truth_right y)
  truth_right _ = tt

  -- ---- definitely bool

  -- to put a value's truth for the value changes nothing: the step gives bool constants only
  unfoldable pub Boolean : Step Value → Type 0
  Boolean m = bind m (λ v. give (constant (boolean (value_truth C v)))) ≡ m

  -- by its last step; given bools; bool constants
  boolean_bind : {A : Type 0} (m : Step A) (k : A → Step Value) → ((a : A) → Boolean (k a)) → Boolean (bind m k)
  unfolding Boolean
  boolean_bind m k q = bind_assoc m k (λ v. give (constant (boolean (value_truth C v)))) ∙ bind_ext m q

  boolean_give : (b : Bool) → Boolean (give (constant (boolean b)))
  unfolding Boolean value_truth
  boolean_give b = give_bind (constant (boolean b)) (λ v. give (constant (boolean (value_truth C v))))

  boolean_const : (c : Const) → is_bool c ≡ true → Boolean (give (constant c))
  boolean_const (boolean b) e = boolean_give b
  boolean_const _ e = cc

  -- In, Equals and Compare
  boolean_answer : (h : Record) (o : Operation) (vs : Values) (a : Answer)
      → next (answered h o vs (as_bool C a)) (λ v. give (constant (boolean (value_truth C v))))
      ≡ answered h o vs (as_bool C a)
  unfolding next answered as_bool give value_truth
  boolean_answer h o vs (gives v) = refl
  boolean_answer h o vs (fails f) = refl

  boolean_test : (o : ℕ) (pay : List ℕ) (vs : Values) → is_test o ≡ true → Boolean (perform C (oper_op o pay) vs)
  unfolding Boolean bind perform answer_to
  boolean_test o pay vs e = fun_ext λ h. rw e (boolean_answer h (oper_op o pay) vs (C.answer h (oper_op o pay) vs))

  -- a definitely-bool expression gives bool constants only
  pub definitely_right : (e : Expr) → definitely_bool e ≡ true → Boolean (run C e)
  unfolding run
  definitely_right (const c) e = boolean_const c e
  definitely_right (Tree.not x) e =
      boolean_bind (test C (run C x)) (λ b. give (constant (boolean (not b)))) (λ b. boolean_give (not b))
  definitely_right (type_is t x) e =
      boolean_bind (run C x) (λ v. give (constant (boolean (eqb (value_type C v) t))))
      (λ v. boolean_give (eqb (value_type C v) t))
  definitely_right (oper h pay es) e =
      boolean_bind (runs C es) (λ vs. perform C (oper_op h pay) vs) (λ vs. boolean_test h pay vs e)
  definitely_right _ e = cc

  -- ---- empty iterables

  -- a quiet step whose value a loop makes no round over
  abbrev pub Hollow : Step Value → Type 0
  Hollow m = (h : Record) → (v : Value) × (m h ≡ done v h) × (value_empty v ≡ true)

  -- empty constants, lists, tuples and dicts
  hollow_const : (c : Const) → const_empty c ≡ true → Hollow (run C (const c))
  unfolding run give value_empty
  hollow_const c p h = (constant c, refl, p)

  hollow_fresh : (f : Fresh) (es : Exprs) → is_none es ≡ true → Hollow (run C (fresh f es))
  unfolding run bind give next make value_empty
  hollow_fresh f no_exprs p h = (fresh_value f no_values h, refl, refl)
  hollow_fresh f (more_exprs e es) p h = cc

  hollow_dict : (es : Exprs) → is_none es ≡ true → Hollow (run C (dict es))
  unfolding value_empty
  hollow_dict no_exprs p h = (empty_dict h, run_no_pairs h, refl)
  hollow_dict (more_exprs e es) p h = cc

  -- an empty iterable gives an empty value and leaves the record as it was
  pub empty_right : (e : Expr) → empty_iterable e ≡ true → Hollow (run C e)
  empty_right (const c) p = hollow_const c p
  empty_right (fresh f es) p = hollow_fresh f es p
  empty_right (dict es) p = hollow_dict es p
  empty_right _ p = cc
