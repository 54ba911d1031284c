-- `expr` of And and Or: the left side goes to the front of the slot, and the statements of the right side become an
-- arm of an If over it. Where an If over the left side stays one, they are made in their place, and the If is written
-- around them.
-- Assumes nothing.
use mathlib.Core.Bool.{Bool, true, false, cond}
use mathlib.Core.List.{List}
use mathlib.Core.Logic.{inl}
use mathlib.Core.Path.{◌≡◌, refl, ap, ap₂, sym, subst, ◌∙◌}
use Prim.Native.Nat.{ℕ, ◌+◌, ◌-◌, ◌≤◌, ◌<◌, ◌^◌}
use native.Mathlib.Omega.{arith}
use lib.ListN.{length}
use Rattle.std.specs.Prelude.{Option, Some, None, IfSome}
use Rattle.std.proofs.lemmas.Option.{IfSome_then}
use Rattle.spec.specs.Rose.{nil, cons, size, At}
use Rattle.spec.specs.Tree.{Expr, logic, Stmts, no_stmts, more_stmts, if_stmt, count_s, rose_e}
use Rattle.spec.specs.Proper.{ValidExpr}
use Rattle.spec.specs.Pass.{nodes_of}
use Rattle.spec.specs.PassStmts.{one, is_empty, logic_stmts, expr_step, if_stays, expr_stmts, if_stmts}
use Rattle.spec.specs.Weight.{weight_e, row_words, made_room}
use Rattle.spec.proofs.Passed.{valid_parts, two_parts}
use Rattle.spec.proofs.Places.{at_move}
use Rattle.spec.proofs.Rows.{made_words, if_words}
use Rattle.spec.proofs.Weights.{expr_weight}
use Rattle.ir.specs.Standing.{SomeExprs, SkipOf}
use Rattle.purity.specs.Told.{IsImpure}
use Rattle.buffer.specs.Copy.{PutAsk, PutDone}
use Rattle.buffer.proofs.Frames.{same_less, same_at, put_at}
use Rattle.expr_forms.proofs.Moves.{is_same}
use Rattle.expr_bool.specs.Asked.{logic_by, ExprAt, NewAsk}
use Rattle.runs.specs.Held.{Holds, Kept, Within, OnlyDone, PlaceDone, Closed, CloseAsk, CloseDone}
use Rattle.expr_bool.specs.declared.Arms.{Arms}
use Rattle.runs.specs.declared.Run.{Run}
use Rattle.stmt.specs.Made.{WayOf, logical, WayDone, Stayed, StayDone, ListPlace}
use Rattle.stmt.specs.Made.{AtBack, ExprAsk, ExprDone, ArmsHold, IfAsk, IfDone}
use Rattle.stmt.specs.declared.Way.TheVariants as way
use Rattle.runs.proofs.Holding.{kept_trans, kept_less, kept_same, kept_put, is_kept}
use Rattle.runs.proofs.Closings.{first_past}
use Rattle.stmt.proofs.Steps.{way_of, finish, stepped}

-- the arms of the If: the right side's statements are the first arm for And, the second for Or
abbrev pub yes_arm : {A : Type 0} → Bool → A → A → A
yes_arm o none right = cond o none right

abbrev pub no_arm : {A : Type 0} → Bool → A → A → A
no_arm o none right = cond o right none

-- And or Or with its sides
pub record Sides (w : List ℕ) (low at end top nodes first : ℕ) (o : Bool) (x y : Expr) : Type 0 where
  pub asked : ExprAsk w low at end top nodes
  pub so : expr_stmts asked.tree ≡ if_stmts x (yes_arm o no_stmts (expr_stmts y)) (no_arm o no_stmts (expr_stmts y))
  pub left_valid : ValidExpr x
  pub right_valid : ValidExpr y
  pub left_here : At w first (rose_e x)
  pub right_here : At w (first + size (rose_e x)) (rose_e y)
  pub past : first ≡ at + 1
  pub ends : end ≡ first + size (rose_e x) + size (rose_e y)
  pub order : low ≤ at
  pub fits : low + 2 + weight_e x + weight_e y ≤ end
  pub room : top + made_room (2 + weight_e x + weight_e y) ≤ length w
  pub few : nodes_of x + nodes_of y < nodes

arms_by : (o : Bool) (x : Expr) (ss : Stmts)
    → logic_stmts if_stmts (logic_by o) x ss ≡ if_stmts x (yes_arm o no_stmts ss) (no_arm o no_stmts ss)
unfolding logic_stmts
arms_by true x ss = refl
arms_by false x ss = refl

-- an arm takes the right side's words or none
arm_words : (o : Bool) (ss : Stmts) → row_words (yes_arm o no_stmts ss) + row_words (no_arm o no_stmts ss) ≡ row_words
    ss
arm_words true ss = omega arith
arm_words false ss = omega arith

-- and is not empty where the right side gives statements, so an If that stays is written
arm_stays : (o : Bool) (c : Expr) (ss : Stmts) → 0 < count_s ss
    → if_stays expr_stmts c (yes_arm o no_stmts ss) (no_arm o no_stmts ss)
    ≡ one (if_stmt c (yes_arm o no_stmts ss) (no_arm o no_stmts ss))
unfolding if_stays is_empty
arm_stays o c no_stmts l = absurd (omega (arith, l))
arm_stays true c (more_stmts s ss) l = refl
arm_stays false c (more_stmts s ss) l = refl

-- a pair by its sides
arms_are : {arms : Arms Run} {yes no : Run} → arms.yes ≡ yes → arms.no ≡ no → arms ≡ record { yes = yes; no = no }
arms_are p q = ap₂ (λ (y n : Run). record { yes = y; no = n }) p q

-- ---- where the condition ends, and where the right side's statements begin

stayed_below : {v : List ℕ} {body lists : ℕ} {x : Expr} → Stayed v body lists x → lists ≤ body + weight_e x
stayed_below s = omega (arith, s.is.ends, s.lighter, (expr_weight s.left).0)

list_bounds : (v : List ℕ) {top list : ℕ} (o : Bool) (x : Expr) (lists : Option ℕ)
    → IfSome lists (λ end. Stayed v (top + 1) end x)
    → ListPlace top lists o list → (top ≤ list) × (list ≤ top + 3 + weight_e x)
list_bounds v o x None h g = (omega (arith, g), omega (arith, g))
list_bounds v o x (Some end) h g =
    let past = first_past end o in
    (omega (arith, g, past.0, h.is.ends), omega (arith, g, past.1, stayed_below h))

module _ {w : List ℕ} {low at end top nodes : ℕ} (a : ExprAsk w low at end top nodes) (impure : IsImpure w at)
  where
    sides_of : {first : ℕ} {o : Bool} {e : Expr} → a.tree ≡ e → WayOf w at e (way.Logic first o)
        → (x : Expr) × (y : Expr) × Sides w low at end top nodes first o x y
    unfolding expr_step nodes_of
    sides_of same (logical o x y first past) =
        let e = logic (logic_by o) x y in
        let b : AtBack w low at end e = subst (AtBack w low at end) same a.back in
        let room : top + made_room (weight_e e) ≤ length w =
        subst (λ (e : Expr). top + made_room (weight_e e) ≤ length w) same a.room in
        let few : nodes_of e ≤ nodes = subst (λ (e : Expr). nodes_of e ≤ nodes) same a.few in
        let both = two_parts x y (valid_parts e b.is.valid) in (
          x,
          y,
          record {
            asked = a;
            so = stepped a impure ∙ ap (expr_step expr_stmts if_stmts) same ∙ arms_by o x (expr_stmts y);
            left_valid = both.0;
            right_valid = both.1;
            left_here = subst (λ (i : ℕ). At w i (rose_e x)) (sym past) b.is.here.1.0;
            right_here = subst (λ (i : ℕ). At w (i + size (rose_e x)) (rose_e y)) (sym past) b.is.here.1.1.0;
            past = past;
            ends = omega (arith, b.is.ends, past);
            order = b.order;
            fits = omega (arith, b.fits);
            room = omega (arith, room);
            few = omega (arith, few);
          },
        )

    pub sides : {first : ℕ} {o : Bool} → WayDone w at (way.Logic first o)
        → (x : Expr) × (y : Expr) × Sides w low at end top nodes first o x y
    sides d = sides_of refl (way_of a d)

-- ---- step by step

module _ {w : List ℕ} {low at end top nodes first : ℕ} {o : Bool} {x y : Expr}
    (s : Sides w low at end top nodes first o x y) where
  inside : end ≤ length w
  inside = omega (arith, s.asked.below, s.room)

  pub side_skip : SomeExprs w first 1
  side_skip = record {
    trees = cons (rose_e x) nil;
    valid = (s.left_valid.1, tt);
    here = (s.left_here, tt);
    many = refl;
    inside = omega (arith, s.ends, inside);
  }

  module _ {middle : ℕ} (q : SkipOf w first 1 middle) where
    skipped : middle ≡ first + size (rose_e x)
    skipped =
        let z = q.of (cons (rose_e x) nil) (s.left_valid.1, tt) (s.left_here, tt) refl in
        omega (arith, z)

    pub side_put : PutAsk (length w) first middle low
    side_put = record {
      order = omega (arith, skipped);
      apart = inl (omega (arith, s.past, s.order));
      within = omega (arith, skipped, s.ends, inside);
      room = omega (arith, skipped, s.past, s.order, s.ends, inside);
    }

    module _ {v : List ℕ} {front : ℕ} (p : PutDone w v first middle low front) where
      fronted : front ≡ low + size (rose_e x)
      fronted = omega (arith, p.ends, skipped)

      before : front ≤ middle
      before = omega (arith, fronted, skipped, s.past, s.order)

      right_moved : At v middle (rose_e y)
      right_moved =
          at_move (rose_e y) (subst (λ (i : ℕ). At w i (rose_e y)) (sym skipped) s.right_here)
          (record { word = λ k h. p.above (middle + k) (omega (arith, before)) })

      left_top : low + size (rose_e x) ≤ top
      left_top = omega (arith, fronted, before, skipped, s.ends, s.asked.below)

      left_stands : ExprAt v low x
      left_stands = record { valid = s.left_valid; here = put_at (rose_e x) skipped p s.left_here }

      pub side_settle : NewAsk v low (top + 1)
      side_settle = record {
        tree = x;
        stands = left_stands;
        below = omega (arith, left_top);
        room = omega (arith, s.room, p.long);
      }

      -- the left side simplified, behind the place of the If's header
      module _ {t : List ℕ} (lt : length t ≡ length v) {lists : Option ℕ} (h : StayDone v t low (top + 1) lists)
        where
          stayed : IfSome lists (λ end. Stayed t (top + 1) end x)
          stayed = IfSome_then lists h.right (λ end r. r x left_stands)

          pub side_first : IfSome lists (λ end. end + 2 < 2 ^ 64)
          side_first =
              IfSome_then lists stayed (λ end l. omega (arith, stayed_below l, s.room, s.asked.short))

          right_back : AtBack t front middle end y
          right_back = record {
            is = is_same h.frame (omega (arith, s.asked.below))
                (record { valid = s.right_valid; here = right_moved; ends = omega (arith, skipped, s.ends) });
            order = before;
            fits = omega (arith, fronted, expr_weight x, s.fits);
          }

          module _ {list : ℕ} (g : ListPlace top lists o list) where
            list_is : (top ≤ list) × (list ≤ top + 3 + weight_e x)
            list_is = list_bounds t o x lists stayed g

            pub side_ask : ExprAsk t front middle end list (nodes - 1)
            side_ask = record {
              tree = y;
              back = right_back;
              below = omega (arith, list_is.0, s.asked.below);
              room = omega (arith, list_is.1, s.room, lt, p.long);
              few = omega (arith, s.few);
              short = omega (arith, s.asked.short, lt, p.long);
            }

            module _ {u : List ℕ} (lu : length u ≡ length t) {right : Run}
                (d : ExprDone t u front middle end list right) where
              right_holds : Holds u right (expr_stmts y)
              right_holds = d.right y right_back

              right_ends : right.end ≡ list + row_words (expr_stmts y)
              right_ends = omega (arith, right_holds.ends, d.begins)

              low_top : low ≤ top
              low_top = omega (arith, left_top)

              kept_right : Kept low end top w u
              kept_right =
                  kept_trans (kept_put end top (omega (arith, before, skipped, s.ends)) p)
                  (kept_trans (kept_same low end low_top (same_less top (omega arith) h.frame))
                  (kept_less low end top (omega (arith, fronted)) (omega arith) list_is.0 d.kept))

              -- or they go down to top
              pub side_down : PutAsk (length u) right.at right.end top
              side_down = record {
                order = omega (arith, right_holds.ends);
                apart = inl (omega (arith, d.begins, list_is.0));
                within = omega (arith, right_ends, list_is.1, made_words y, s.room, lu, lt, p.long);
                room = omega (arith, right_ends, d.begins, made_words y, s.room, lu, lt, p.long);
              }

              module _ {m : List ℕ} (lm : length m ≡ length u) {moved : Run} (e : PlaceDone u m right top moved) where
                moved_holds : Holds m moved (expr_stmts y)
                moved_holds = e.right (expr_stmts y) right_holds

                behind : moved.end ≡ top + row_words (expr_stmts y)
                behind = omega (arith, moved_holds.ends, e.begins)

                long : length m ≡ length w
                long = lm ∙ lu ∙ lt ∙ p.long

                left_within : Within m low low end x
                left_within = record {
                  stands = record {
                    valid = s.left_valid;
                    here = same_at (rose_e x) low left_top e.frame
                        (same_at (rose_e x) low (omega (arith, fronted)) d.kept.frame
                        (same_at (rose_e x) low (omega (arith, left_top)) h.frame left_stands.here));
                  };
                  order = omega arith;
                  inner = omega (arith, fronted, before, skipped, s.ends);
                  fits = omega (arith, s.fits);
                }

                module _ {arms : Arms Run} (n : OnlyDone moved o arms) where
                  arms_of : (b : Bool)
                      → ArmsHold m end (record { yes = yes_arm b n.none moved; no = no_arm b n.none moved }) moved.end
                      (yes_arm b no_stmts (expr_stmts y)) (no_arm b no_stmts (expr_stmts y))
                  arms_of true = record {
                    yes_holds = n.nothing.right m;
                    no_holds = moved_holds;
                    yes_above = omega (arith, n.nothing.begins, behind, s.asked.below);
                    no_above = omega (arith, e.begins, s.asked.below);
                    yes_below = omega (arith, n.nothing.ends);
                    no_below = omega arith;
                  }
                  arms_of false = record {
                    yes_holds = moved_holds;
                    no_holds = n.nothing.right m;
                    yes_above = omega (arith, e.begins, s.asked.below);
                    no_above = omega (arith, n.nothing.begins, behind, s.asked.below);
                    yes_below = omega arith;
                    no_below = omega (arith, n.nothing.ends);
                  }

                  both_arms : ArmsHold m end arms moved.end (yes_arm o no_stmts (expr_stmts y))
                      (no_arm o no_stmts (expr_stmts y))
                  both_arms =
                      let is : arms ≡ record { yes = yes_arm o n.none moved; no = no_arm o n.none moved } =
                      arms_are n.yes_is n.no_is in
                      subst (λ (r : Arms Run). ArmsHold m end r moved.end (yes_arm o no_stmts (expr_stmts y))
                      (no_arm o no_stmts (expr_stmts y))) (sym is) (arms_of o)

                  pub side_if : IfAsk m low low end arms moved.end (nodes - 1)
                  side_if = record {
                    tree = x;
                    yes_list = yes_arm o no_stmts (expr_stmts y);
                    no_list = no_arm o no_stmts (expr_stmts y);
                    within = left_within;
                    held = both_arms;
                    below = omega (arith, behind, s.asked.below);
                    room = omega (arith, behind, arm_words o (expr_stmts y), made_words y, s.room, long);
                    few = omega (arith, s.few);
                    short = omega (arith, s.asked.short, long);
                  }

                  module _ {z : List ℕ} (lz : length z ≡ length m) {made : Run}
                      (i : IfDone m z low low end arms moved.end made) where
                    made_holds : Holds z made
                        (if_stmts x (yes_arm o no_stmts (expr_stmts y)) (no_arm o no_stmts (expr_stmts y)))
                    made_holds =
                        i.right x (yes_arm o no_stmts (expr_stmts y)) (no_arm o no_stmts (expr_stmts y)) left_within
                        both_arms

                    made_ends : made.end ≤ length z
                    made_ends =
                        omega (
                          arith,
                          made_holds.ends,
                          i.begins,
                          behind,
                          if_words x (yes_arm o no_stmts (expr_stmts y)) (no_arm o no_stmts (expr_stmts y)),
                          arm_words o (expr_stmts y),
                          made_words y,
                          s.room,
                          lz,
                          long,
                        )

                    pub side_place : PutAsk (length z) made.at made.end top
                    side_place = record {
                      order = omega (arith, made_holds.ends);
                      apart = inl (omega (arith, i.begins, behind));
                      within = made_ends;
                      room = omega (arith, made_ends, i.begins, behind);
                    }

                    if_kept : Kept low end top m z
                    if_kept =
                        kept_less low end top (omega arith) (omega arith) (omega (arith, behind)) i.kept

                    pub side_done : {k : List ℕ} {r : Run} → PlaceDone z k made top r → ExprDone w k low at end top r
                    side_done {k} {r} f =
                        finish s.asked
                        (kept_trans kept_right
                        (kept_trans (kept_same low end low_top e.frame)
                        (kept_trans if_kept (kept_same low end low_top f.frame))))
                        f.begins
                        (subst (Holds k r) (sym s.so) (f.right _ made_holds))

-- ---- where an If over the left side stays one, it is written around the right side's statements

module _ {w : List ℕ} {low at end top nodes first : ℕ} {o : Bool} {x y : Expr}
    (s : Sides w low at end top nodes first o x y) {middle : ℕ} (q : SkipOf w first 1 middle) {v : List ℕ} {front : ℕ}
    (p : PutDone w v first middle low front) {t : List ℕ} (lt : length t ≡ length v) {lists : ℕ}
    (h : StayDone v t low (top + 1) (Some lists)) {list : ℕ} (g : ListPlace top (Some lists) o list) {u : List ℕ}
    (lu : length u ≡ length t) {right : Run} (d : ExprDone t u front middle end list right) where
  here : Stayed t (top + 1) lists x
  here = stayed s q p lt h

  closed : Closed u top lists right o here.left (expr_stmts y)
  closed = record {
    is = is_kept d.kept (omega (arith, s.asked.below)) (omega (arith, g, (first_past lists o).0)) here.is;
    holds = right_holds s q p lt h g lu d;
    begins = d.begins ∙ g;
  }

  pub side_close : CloseAsk u top lists right o
  side_close = record {
    tree = here.left;
    list = expr_stmts y;
    closed = closed;
    room = omega (
      arith,
      right_ends s q p lt h g lu d,
      (list_is s q p lt h g).1,
      made_words y,
      s.room,
      lu,
      lt,
      p.long,
    );
    short = omega (arith, s.asked.short, lu, lt, p.long);
  }

  pub side_closed : 0 < right.count → {z : List ℕ} {r : Run} → CloseDone u z top lists right o r
      → ExprDone w z low at end top r
  side_closed some {z} {r} f =
      let ss = expr_stmts y in
      let so = s.so ∙ here.so (yes_arm o no_stmts ss) (no_arm o no_stmts ss)
      ∙ arm_stays o here.left ss (omega (arith, some, (right_holds s q p lt h g lu d).counts)) in
      finish s.asked
      (kept_trans (kept_right s q p lt h g lu d) (kept_same low end (low_top s q p lt h g lu d) f.frame))
      f.begins
      (subst (Holds z r) (sym so) (f.right here.left ss closed))

-- ---- the same from what `expr` knows where it meets And or Or

module _ {w : List ℕ} {low at end top nodes : ℕ} (a : ExprAsk w low at end top nodes) (impure : IsImpure w at)
    {first : ℕ} {o : Bool} (d : WayDone w at (way.Logic first o)) where
  abbrev told : (x : Expr) × (y : Expr) × Sides w low at end top nodes first o x y
  told = sides a impure d

  pub logic_skip : SomeExprs w first 1
  logic_skip = side_skip told.2

  module _ {middle : ℕ} (q : SkipOf w first 1 middle) where
    pub logic_put : PutAsk (length w) first middle low
    logic_put = side_put told.2 q

    module _ {v : List ℕ} {front : ℕ} (p : PutDone w v first middle low front) where
      pub logic_settle : NewAsk v low (top + 1)
      logic_settle = side_settle told.2 q p

      module _ {t : List ℕ} (lt : length t ≡ length v) {lists : Option ℕ} (h : StayDone v t low (top + 1) lists)
        where
          pub logic_first : IfSome lists (λ end. end + 2 < 2 ^ 64)
          logic_first = side_first told.2 q p lt h

          module _ {list : ℕ} (g : ListPlace top lists o list) where
            pub logic_ask : ExprAsk t front middle end list (nodes - 1)
            logic_ask = side_ask told.2 q p lt h g

            module _ {u : List ℕ} (lu : length u ≡ length t) {right : Run}
                (r : ExprDone t u front middle end list right) where
              pub logic_down : PutAsk (length u) right.at right.end top
              logic_down = side_down told.2 q p lt h g lu r

              module _ {m : List ℕ} (lm : length m ≡ length u) {moved : Run} (e : PlaceDone u m right top moved)
                  {arms : Arms Run} (n : OnlyDone moved o arms) where
                pub logic_if : IfAsk m low low end arms moved.end (nodes - 1)
                logic_if = side_if told.2 q p lt h g lu r lm e n

                module _ {z : List ℕ} (lz : length z ≡ length m) {made : Run}
                    (i : IfDone m z low low end arms moved.end made) where
                  pub logic_place : PutAsk (length z) made.at made.end top
                  logic_place = side_place told.2 q p lt h g lu r lm e n lz i

                  pub logic_done : {k : List ℕ} {s : Run} → PlaceDone z k made top s → ExprDone w k low at end top s
                  logic_done f = side_done told.2 q p lt h g lu r lm e n lz i f

module _ {w : List ℕ} {low at end top nodes : ℕ} (a : ExprAsk w low at end top nodes) (impure : IsImpure w at)
    {first : ℕ} {o : Bool} (d : WayDone w at (way.Logic first o)) {middle : ℕ} (q : SkipOf w first 1 middle)
    {v : List ℕ} {front : ℕ} (p : PutDone w v first middle low front) {t : List ℕ} (lt : length t ≡ length v)
    {settled : Option ℕ} (h : StayDone v t low (top + 1) settled) {list : ℕ} (g : ListPlace top settled o list)
    {u : List ℕ} (lu : length u ≡ length t) {right : Run} (r : ExprDone t u front middle end list right) {lists : ℕ}
    (is : settled ≡ Some lists) where
  stays_if : StayDone v t low (top + 1) (Some lists)
  stays_if = subst (StayDone v t low (top + 1)) is h

  in_list : ListPlace top (Some lists) o list
  in_list = subst (λ (l : Option ℕ). ListPlace top l o list) is g

  pub logic_close : CloseAsk u top lists right o
  logic_close = side_close (told a impure d).2 q p lt stays_if in_list lu r

  pub logic_closed : 0 < right.count → {z : List ℕ} {s : Run} → CloseDone u z top lists right o s
      → ExprDone w z low at end top s
  logic_closed some f = side_closed (told a impure d).2 q p lt stays_if in_list lu r some f
