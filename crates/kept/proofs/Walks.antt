-- A walk through words that finds a kept expression, node by node: whatever kept expressions may come for those that
-- are left, no deeper than there is room for, the words behind and these are one kept expression.
-- Assumes nothing.
use mathlib.Core.Bool.{Bool, true, false}
use mathlib.Core.List.{List, [], ◌∷◌}
use mathlib.Core.Path.{◌≡◌, refl, ap, sym, subst}
use Prim.Native.Nat.{ℕ, zero, suc, ◌+◌, ◌-◌, ◌*◌, ◌≤◌, ◌<◌, max}
use native.Mathlib.Omega.{arith}
use borrow.Author.Tests.{lt-ltb}
use lib.Dec.{ltb}
use lib.ListN.{length}
use mir.Val.{bool_byte}
use Rattle.std.specs.Cmp.Derive.{both_true}
use Rattle.spec.specs.Rose.{Rose, Roses, node, nil, cons, size, sizes, depth, depths, At, Ats}
use Rattle.spec.specs.Rose.{count as countR}
use Rattle.spec.specs.Grammar.{kind_in, detail_in, part_sort, Owned, Valid}
use Rattle.spec.specs.Tree.{bit_of}
use Rattle.spec.proofs.Outcomes.{both, byte_one}
use Rattle.spec.proofs.Heads.{expr_head_lem}
use Rattle.spec.proofs.Meanings.{part_expr, valids_as}
use Rattle.spec.specs.declared.Sort.TheVariants as sort
use Rattle.ir.specs.Standing.{ValidExprs}
use Rattle.ir.proofs.Forests.{from}
use Rattle.kept_nodes.specs.Nodes.{OwnStays}
use Rattle.kept_nodes.specs.declared.Own.{Own}
use Rattle.kept.specs.Kept.{kept_r, kepts_r, places_r, places_rs, RoseStays}

-- ---- one node

-- a bool as a number
byte_bit : (b : Bool) → bool_byte b ≡ bit_of b
byte_bit true = refl
byte_bit false = refl

-- the room that a node with n parts takes: one level where it has any
abbrev pub inner : ℕ → ℕ
inner n = bool_byte (ltb 0 n)

inner_some : {n : ℕ} → 0 < n → inner n ≡ 1
inner_some {n} h = ap bool_byte (lt-ltb 0 n h)

-- its parts are no more than that, times the most that a node may have
inner_many : (n : ℕ) → n < 67108864 → n ≤ 67108864 * inner n
inner_many zero h = omega arith
inner_many (suc n) h = omega (arith, h, inner_some {n = suc n} (omega arith))

-- parts at most one level deeper than the room it leaves are no deeper than the room
node_deep : {n room : ℕ} (ps : Roses) → n ≡ countR ps → inner n ≤ room → depths ps ≤ 1 + (room - inner n)
    → depths ps ≤ room
node_deep nil e enough d = omega arith
node_deep {n} (cons p ps) e enough d = omega (arith, inner_some {n = n} (omega (arith, e)), enough, d)

-- own words are one at least
own_words : (own : List ℕ) (n : ℕ) → Owned sort.Expr own n → 1 ≤ length own
own_words [] n o = absurd o
own_words (h ∷ pay) n o = omega arith

-- own words with as many expressions for parts are an expression
node_valid : (own : List ℕ) (ps : Roses) → Owned sort.Expr own (countR ps) → ValidExprs ps
    → Valid sort.Expr (node sort.Expr own ps)
node_valid [] ps o v = absurd o
node_valid (h ∷ pay) ps o v =
    let each = part_expr (expr_head_lem (kind_in h) (detail_in h) o.head) in
    (refl, o, valids_as (λ (i : ℕ). sort.Expr) (part_sort (kind_in h)) (λ i. sym (each i)) ps 0 v)

-- ---- kept expressions, one behind the other

pub record KeptRun (w : List ℕ) (at : ℕ) (ps : Roses) : Type 0 where
  pub valid : ValidExprs ps
  pub here : Ats w at ps
  pub kept : kepts_r ps ≡ true

-- the first n of them, and the others
record Split (w : List ℕ) (a n : ℕ) (qs : Roses) : Type 0 where
  parts : Roses
  rest : Roses
  first : KeptRun w a parts
  then : KeptRun w (a + sizes parts) rest
  many : n ≡ countR parts
  others : countR qs ≡ n + countR rest
  words : sizes qs ≡ sizes parts + sizes rest
  places : places_rs qs ≡ places_rs parts + places_rs rest
  deep : depths qs ≡ max (depths parts) (depths rest)

module _ {w : List ℕ} where
  run_nil : (a : ℕ) → KeptRun w a nil
  run_nil a = record { valid = tt; here = tt; kept = refl }

  run_cons : {a : ℕ} {p : Rose} {ps : Roses} → Valid sort.Expr p → At w a p → kept_r p ≡ true
      → KeptRun w (a + size p) ps → KeptRun w a (cons p ps)
  run_cons {ps = ps} v a k r =
      record { valid = (v, from 0 1 ps r.valid); here = (a, r.here); kept = both_true k r.kept }

  run_rest : {a : ℕ} {p : Rose} {ps : Roses} → KeptRun w a (cons p ps) → KeptRun w (a + size p) ps
  run_rest {p = p} {ps = ps} r = record {
    valid = from 1 0 ps r.valid.1;
    here = r.here.1;
    kept = (both (kept_r p) (kepts_r ps) r.kept).1;
  }

  run_at : {a b : ℕ} {ps : Roses} → a ≡ b → KeptRun w a ps → KeptRun w b ps
  run_at {ps = ps} e r = subst (λ (i : ℕ). KeptRun w i ps) e r

  split : (n a : ℕ) (qs : Roses) → KeptRun w a qs → n ≤ countR qs → Split w a n qs
  split zero a qs r h = record {
    parts = nil;
    rest = qs;
    first = run_nil a;
    then = run_at (omega arith) r;
    many = refl;
    others = omega arith;
    words = omega arith;
    places = omega arith;
    deep = omega arith;
  }
  split (suc n) a nil r h = absurd (omega arith)
  split (suc n) a (cons q qs) r h =
      let s = split n (a + size q) qs (run_rest r) (omega arith) in
      record {
        parts = cons q s.parts;
        rest = s.rest;
        first = run_cons r.valid.0 r.here.0 (both (kept_r q) (kepts_r qs) r.kept).0 s.first;
        then = run_at (omega arith) s.then;
        many = omega arith;
        others = omega arith;
        words = omega arith;
        places = omega arith;
        deep = omega arith;
      }

-- ---- the walk

-- an expression from `at` up to `end` is kept, with n foldable places
record Made (w : List ℕ) (at end n : ℕ) : Type 0 where
  tree : Rose
  valid : Valid sort.Expr tree
  here : At w at tree
  ends : end ≡ at + size tree
  deep : depth tree ≤ 199
  kept : kept_r tree ≡ true
  met : n ≡ places_r tree

-- `left` expressions are to come from `next` on, each at most one level deeper than the room, and `met` foldable
-- places are behind, each with a word. Each level of room that was taken left less than 67108864 more to come
pub record Walking (w : List ℕ) (at next met left room : ℕ) : Type 0 where
  all : (ps : Roses) → KeptRun w next ps → left ≡ countR ps → depths ps ≤ 1 + room
      → Made w at (next + sizes ps) (met + places_rs ps)
  pub forward : met + at ≤ next
  pub few : left + 67108864 * room ≤ 1 + 67108864 * 198
  pub inside : left ≡ 0 → next ≤ length w

pub walk_start : (w : List ℕ) (at : ℕ) → Walking w at at 0 1 198
walk_start w at = record { all = go; forward = omega arith; few = omega arith; inside = λ e. absurd (omega arith) }
  where
    go : (ps : Roses) → KeptRun w at ps → 1 ≡ countR ps → depths ps ≤ 199
        → Made w at (at + sizes ps) (0 + places_rs ps)
    go nil r e d = absurd (omega arith)
    go (cons p nil) r e d = record {
      tree = p;
      valid = r.valid.0;
      here = r.here.0;
      ends = omega arith;
      deep = omega (arith, d);
      kept = (both (kept_r p) true r.kept).0;
      met = omega arith;
    }
    go (cons p (cons q qs)) r e d = absurd (omega arith)

-- one node further
module _ {w : List ℕ} {at next met left room : ℕ} {own : Own} (t : Walking w at next met left room) (h : 0 < left)
    (enough : inner own.count ≤ room) (o : OwnStays w next own) where
  -- the places behind have a word each
  fits : met + bool_byte own.folds + at ≤ own.first
  fits =
      let some = own_words o.own own.count o.owned in
      omega (arith, byte_one own.folds)

  -- the node before as many of those that come as it has parts
  node_made : (qs : Roses) → KeptRun w own.first qs → left - 1 + own.count ≡ countR qs
      → depths qs ≤ 1 + (room - inner own.count)
      → Made w at (own.first + sizes qs) (met + bool_byte own.folds + places_rs qs)
  node_made qs r e d =
      let s = split own.count own.first qs r (omega arith) in
      let ps = s.parts in
      let stays = o.stays ps s.first.valid s.first.here s.many in
      let owned = subst (λ (i : ℕ). Owned sort.Expr o.own i) s.many o.owned in
      let here : At w next (node sort.Expr o.own ps) =
      (o.here, subst (λ (i : ℕ). Ats w i ps) o.ends s.first.here) in
      let behind : own.first + sizes ps ≡ next + (length o.own + sizes ps) = omega arith in
      let tree = node sort.Expr o.own ps in
      let run = run_cons {p = tree} (node_valid o.own ps owned s.first.valid) here
      (both_true stays.kept s.first.kept) (run_at behind s.then) in
      let number : left ≡ countR (cons tree s.rest) = omega arith in
      let low = node_deep ps s.many enough (omega (arith, d, s.deep)) in
      let whole = t.all (cons tree s.rest) run number (omega (arith, low, d, s.deep)) in
      let folded = ap bit_of stays.met in
      record {
        tree = whole.tree;
        valid = whole.valid;
        here = whole.here;
        ends = omega arith;
        deep = whole.deep;
        kept = whole.kept;
        met = omega (arith, byte_bit own.folds);
      }

  pub walk_step : Walking w at own.first (met + bool_byte own.folds) (left - 1 + own.count) (room - inner own.count)
  walk_step = record {
    all = node_made;
    forward = fits;
    few = omega (arith, t.few, h, enough, inner_many own.count o.few);
    inside = λ e. o.inside;
  }

-- none is left
pub walk_end : {w : List ℕ} {at next met left room : ℕ} → left ≤ 0 → Walking w at next met left room
    → RoseStays w at (record { next = next; foldable = met })
walk_end {w} {at} {next} {met} {left} {room} h t =
    let none : left ≡ 0 = omega arith in
    let m = t.all nil (run_nil next) none (omega arith) in
    record {
      tree = m.tree;
      valid = m.valid;
      here = m.here;
      ends = omega arith;
      inside = t.inside none;
      deep = m.deep;
      kept = m.kept;
      met = omega arith;
    }
