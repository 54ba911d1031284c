-- The copy of the rule words, and the answer of a file that is not refused.
-- Assumes nothing.
use Rattle.std.proofs.Common.{◌≡◌, ℕ, suc, ◌+◌, ◌-◌, ◌*◌, ◌/◌, ◌≤◌, ◌<◌, min, true, List, ◌++◌, Result, Ok, Err}
use Rattle.std.proofs.Common.{length, get_or, take, drop, length-take-le, get_or-take, get_or-drop, length-drop}
use Rattle.std.proofs.Common.{drop-drop, take-take, ap, ap₂, sym, subst, ◌∙◌, arith, lt-ltb, add-one}
use native.Mathlib.Decide.{dec_lt}
use borrow.Rule.Slice.PartMut.{put_mid}
use lib.Seq.{ext_get_or}
use Rattle.spec.specs.Outcome.{Outcome, given, refused, ◌then◌, fitted}
use Rattle.spec.specs.Blocks.{length_right, judged_all, rule_words, words_of, used_in, Known, counted, last_reached}
use Rattle.spec.specs.Blocks.{read_blocks}
use Rattle.spec.proofs.Bytes.{length_words_of}
use Rattle.spec.proofs.Files.{used_last, length_rule, rule_next, full_at, length_front}
use Rattle.spec.proofs.LastBlocks.{drop_take, read_last, reached_judged, reached_length}
use Rattle.spec.proofs.Outcomes.{fitted_enough}
use Rattle.refusal.specs.declared.Refusal.{Refusal}
use Rattle.refusal.specs.Answers.{outcome_by}
use Rattle.refusal.specs.Numbers.{number_of, place_of}
use Rattle.block_words.specs.Placed.{placed}
use Rattle.block_words.proofs.Placed.{placed_none, placed_more, placed_front}
use Rattle.blocks.specs.Answers.{Met}
use Rattle.refusal.specs.declared.Refusal.TheVariants as refusal

-- ---- the copy of the rule words

-- of one block, once so many words are in place
pub block_copied : (block new : List ℕ) (n i : ℕ) → n ≤ 126 → length block ≡ 512 → length new ≡ n → n ≤ i
    → ((j : ℕ) → j < i → get_or new j 0 ≡ get_or (words_of block) (1 + j) 0)
    → new ≡ take n (drop 1 (words_of block))
block_copied block new n i few size same all word =
    let long : n ≤ length (drop 1 (words_of block)) =
    omega (arith, length_words_of block, length-drop 1 (words_of block)) in
    ext_get_or 0 new (take n (drop 1 (words_of block))) (same ∙ sym (length-take-le n (drop 1 (words_of block)) long))
    (λ k h. word k (omega (arith, same)) ∙ sym (get_or-take n (drop 1 (words_of block)) k 0 (omega (arith, same))
    ∙ get_or-drop 1 (words_of block) k 0))

module _ (bytes : List ℕ) (some : 0 < length bytes / 512) where
  abbrev before : ℕ
  before = length bytes / 512 - 1

  count : length bytes / 512 ≡ suc before
  count = omega (arith, some)

  long : 128 * suc before ≤ length (words_of bytes)
  long = omega (arith, length_words_of bytes, count)

  -- ---- of all blocks

  module _ (n : ℕ) (judged : judged_all (length bytes / 512) 0 (words_of bytes) ≡ given tt)
      (size : length (rule_words (length bytes / 512) (words_of bytes)) ≡ n) where
    judged_lem : judged_all (suc before) 0 (words_of bytes) ≡ given tt
    judged_lem = subst (λ (m : ℕ). judged_all m 0 (words_of bytes) ≡ given tt) count judged

    n_is : n ≡ 126 * before + used_in (drop (128 * before) (words_of bytes))
    n_is =
        sym size ∙ ap (λ (m : ℕ). length (rule_words m (words_of bytes))) count
        ∙ length_rule before (words_of bytes) long judged_lem

    -- the words copied of a block are its rule words
    abbrev Cut : ℕ → Type 0
    Cut k =
        (min n (126 * k + 126) - 126 * k ≡ used_in (drop (128 * k) (words_of bytes)))
        × (126 * k ≤ min n (126 * k + 126))

    used_cut : (k : ℕ) → k < length bytes / 512 → Cut k
    used_cut k h = elim (dec_lt k before) [ yes inner ↦ full inner | no last ↦ end (omega (arith, last, count)) ]
      where
        full : k < before → Cut k
        full inner = (
          omega (arith, n_is, full_at before (words_of bytes) long judged_lem k inner),
          omega (arith, n_is, inner),
        )

        end : k ≡ before → Cut k
        end e =
            let most = (used_last before 0 (words_of bytes) judged_lem).1 in
            let same : used_in (drop (128 * k) (words_of bytes)) ≡ used_in (drop (128 * before) (words_of bytes)) =
            ap (λ (m : ℕ). used_in (drop (128 * m) (words_of bytes))) e in
            (omega (arith, n_is, most, same, e), omega (arith, n_is, e))

    pub unpack_start : (k to : ℕ) → k < length bytes / 512 → to ≡ min n (126 * k + 126) → 126 * k ≤ to
    unpack_start k to h e = omega (arith, e, (used_cut k h).1)

    pub unpack_none : (old : List ℕ) → old ≡ placed old 0 (rule_words 0 (words_of bytes))
    unfolding rule_words
    unpack_none old = sym (placed_none old 0)

    -- one block more
    pub unpack_next : (old new part block : List ℕ) (k to : ℕ) → k < length bytes / 512 → to ≡ min n (126 * k + 126)
        → n ≤ length old
        → words_of block ≡ take 128 (drop (128 * k) (words_of bytes))
        → new ≡ placed old 0 (rule_words k (words_of bytes))
        → length new ≡ length old
        → part ≡ take (length (take (to - 126 * k) (drop (126 * k) new))) (drop 1 (words_of block))
        → put_mid (126 * k) (to - 126 * k) new part ≡ placed old 0 (rule_words (k + 1) (words_of bytes))
    unpack_next old new part block k to h e room cut so_far same copied =
        let used = used_in (drop (128 * k) (words_of bytes)) in
        let rest = drop 1 (drop (128 * k) (words_of bytes)) in
        let front = rule_words k (words_of bytes) in
        let size_k : to - 126 * k ≡ used = ap (λ (m : ℕ). m - 126 * k) e ∙ (used_cut k h).0 in
        let lent : length (take (to - 126 * k) (drop (126 * k) new)) ≡ used =
        length-take-le (to - 126 * k) (drop (126 * k) new) (omega (arith, length-drop (126 * k) new, e, room, same))
        ∙ size_k in
        let few : used ≤ 126 = omega (arith, (used_cut k h).0) in
        let is : part ≡ take used rest =
        copied
        ∙ ap₂ (λ (m : ℕ) (l : List ℕ). take m (drop 1 l)) lent cut
        ∙ ap (take used) (drop_take 1 128 (drop (128 * k) (words_of bytes)))
        ∙ take-take used 127 rest (omega arith) in
        let some_words : used ≤ length rest = simp length-drop (omega (arith, long, count, h, few)) in
        let behind : 126 * k + (to - 126 * k) ≡ 126 * k + length part =
        ap (λ (m : ℕ). 126 * k + m) (size_k ∙ sym (ap length is ∙ length-take-le used rest some_words)) in
        let at : length front ≡ 126 * k = length_front before (words_of bytes) long judged_lem k (omega (arith, h)) in
        let here : 126 * k ≡ 0 + length front = omega (arith, at) in
        ap (λ (l : List ℕ). take (126 * k) new ++ (part ++ l))
        (drop-drop (to - 126 * k) (126 * k) new ∙ ap (λ (m : ℕ). drop m new) behind)
        ∙ ap₂ (λ (l : List ℕ) (m : ℕ). placed l m part) so_far here
        ∙ placed_more old 0 front (omega (arith, at, room, (used_cut k h).1)) part
        ∙ ap (placed old 0) (ap (λ (l : List ℕ). front ++ l) is ∙ sym (rule_next k (words_of bytes))
        ∙ ap (λ (m : ℕ). rule_words m (words_of bytes)) (sym (add-one k)))

  -- ---- the answer of a file that is not refused, by the count of its last block

  module _ (blocks : ℕ) (cut : blocks ≡ length bytes / 512) (used : ℕ)
      (reached : last_reached before (words_of bytes) ≡ given (counted used)) where
    pub load_judged : judged_all (length bytes / 512) 0 (words_of bytes) ≡ given tt
    load_judged =
        ap (λ (n : ℕ). judged_all n 0 (words_of bytes)) count ∙ reached_judged before (words_of bytes) used reached

    pub load_size : length (rule_words (length bytes / 512) (words_of bytes)) ≡ 126 * (blocks - 1) + used
    load_size =
        ap (λ (n : ℕ). length (rule_words n (words_of bytes))) count
        ∙ reached_length before (words_of bytes) used reached long
        ∙ ap (λ (n : ℕ). 126 * (n - 1) + used) (sym cut)

    pub load_short : (old : List ℕ) → length old < 126 * (blocks - 1) + used
        → Met (fitted (length old) (rule_words (length bytes / 512) (words_of bytes))) old
        (Err (refusal.ShortResult (126 * (blocks - 1) + used))) old
    load_short old h =
        let f : fitted (length old) (rule_words (length bytes / 512) (words_of bytes))
        ≡ refused 11 (126 * (blocks - 1) + used) =
        rw load_size (rw (lt-ltb (length old) (126 * (blocks - 1) + used) h)) in
        record { answered = rw f; result = rw f }

    pub load_done : (old new : List ℕ) → 126 * (blocks - 1) + used ≤ length old
        → new ≡ placed old 0 (rule_words (length bytes / 512) (words_of bytes))
        → Met (fitted (length old) (rule_words (length bytes / 512) (words_of bytes))) old
        (Ok (126 * (blocks - 1) + used)) new
    load_done old new h u =
        let rule = rule_words (length bytes / 512) (words_of bytes) in
        let f : fitted (length old) rule ≡ given rule =
        fitted_enough (length old) rule (omega (arith, h, load_size)) in
        record { answered = rw f (ap given (sym load_size)); result = rw f (u ∙ placed_front old rule) }

  -- ---- the answer of a file, by that of its check

  module _ (right : length_right (length bytes) ≡ true) (room : ℕ) where
    read_then : read_blocks bytes room
        ≡ (last_reached before (words_of bytes) then fitted room (rule_words (length bytes / 512) (words_of bytes)))
    read_then =
        read_last bytes room before right count
        ∙ ap (λ (n : ℕ). last_reached before (words_of bytes) then fitted room (rule_words n (words_of bytes)))
        (sym count)

    -- with what the check found in place of `last_reached`
    found : (o : Outcome Known) → o ≡ last_reached before (words_of bytes)
        → read_blocks bytes room ≡ (o then fitted room (rule_words (length bytes / 512) (words_of bytes)))
    found o e =
        read_then
        ∙ ap (λ (p : Outcome Known). p then fitted room (rule_words (length bytes / 512) (words_of bytes))) (sym e)

    pub read_refused : (old : List ℕ) (r : Result ℕ Refusal) (err : Refusal) → r ≡ Err err
        → outcome_by counted r ≡ last_reached before (words_of bytes)
        → Met (read_blocks bytes room) old (Err err) old
    read_refused old r err e o =
        let f : read_blocks bytes room ≡ refused (number_of err) (place_of err) =
        found (refused (number_of err) (place_of err)) (ap (outcome_by counted) (sym e) ∙ o) in
        record { answered = rw f; result = rw f }

    pub read_loaded : (old new : List ℕ) (r a : Result ℕ Refusal) (used : ℕ) → r ≡ Ok used
        → outcome_by counted r ≡ last_reached before (words_of bytes)
        → Met (fitted room (rule_words (length bytes / 512) (words_of bytes))) old a new
        → Met (read_blocks bytes room) old a new
    read_loaded old new r a used e o m =
        subst (λ (p : Outcome (List ℕ)). Met p old a new)
        (sym (found (given (counted used)) (ap (outcome_by counted) (sym e) ∙ o))) m
