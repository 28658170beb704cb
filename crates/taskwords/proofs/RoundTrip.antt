-- Packing a task into words and unpacking it gives the task back; unpacking words and packing them gives the words back.
use mathlib.Core.Bool.{Bool, true, false}
use mathlib.Core.List.{List, [], ◌∷◌, ◌++◌, map, append_assoc}
use mathlib.Core.Path.{◌≡◌, refl, ◌∙◌, ap, sym}
use Prim.Native.Nat.{ℕ, ◌+◌, ◌≤◌, ◌<◌}
use native.Mathlib.Numerals.{add-one}
use native.Mathlib.Omega.{arith}
use borrow.Author.Tests.{eq-eqb, ne_eqb, ltb-false}
use lib.Dec.{ltb}
use lib.ListN.{length, get_or, take, drop, length-append, length-map, get_or-map, take-append-drop, length-drop}
use lib.Seq.{ext_get_or, take_at, drop_at, get_or_at, drop-drop, drop-cons, take_all}
use Rattle.table.specs.Sizes.{max_actions, max_runs, all_steps}
use Rattle.table.specs.Tasks.{Shaped, formed, sizes_formed}
use Rattle.table.specs.declared.Task.{Task}
use Rattle.taskwords.specs.Words.{step_in, last_step, task_words, table_words, needs_at, adds_at, deletes_at, locks_at, starts_at, goals_at, counts_at, steps_at, masks_at, of_runs_at, unpacked, task_in, table_out, runs_out, task_out}
use Rattle.taskwords.proofs.WordLaws.{task_length}

-- A step that fits a byte is itself.
step_tested : (w : ℕ) (b : Bool) → ltb w last_step ≡ b → w ≤ last_step → step_in w ≡ w
unfolding step_in
step_tested w true e h = rw e
step_tested w false e h = let last : last_step ≡ w = omega (arith, ltb-false w last_step e) in rw e last

step_mapped : (l : List ℕ) (i : ℕ) → get_or (map step_in l) i 0 ≡ step_in (get_or l i 0)
unfolding step_in
step_mapped l i = get_or-map step_in l i 0

steps_same : (l : List ℕ) → ((i : ℕ) → get_or l i 0 ≤ last_step) → map step_in l ≡ l
steps_same l narrow =
    ext_get_or 0 (map step_in l) l (length-map l step_in)
    (λ i below. step_mapped l i ∙ step_tested (get_or l i 0) (ltb (get_or l i 0) last_step) refl (narrow i))

-- The words of the runs, and of a task, with their parts side by side.
abbrev runs_flat : Task → List ℕ
runs_flat t = t.runs.many ∷ (t.runs.starts ++ (t.runs.goals ++ (t.runs.counts ++ t.runs.steps)))

side_by_side : (h n a d l m s g k e : List ℕ)
    → h ++ n ++ a ++ d ++ l ++ (m ++ s ++ g ++ k ++ e) ≡ h ++ (n ++ (a ++ (d ++ (l ++ (m ++ (s ++ (g ++ (k ++ e))))))))
side_by_side h n a d l m s g k e = simp append_assoc

flat : (t : Task) → task_out t ≡
    (t.table.facts ∷ t.table.actions ∷ t.table.limit ∷ []) ++
    (t.table.needs ++ (t.table.adds ++ (t.table.deletes ++ (t.table.locks ++ runs_flat t))))
unfolding task_out table_out runs_out
flat t =
    side_by_side (t.table.facts ∷ t.table.actions ∷ t.table.limit ∷ []) t.table.needs t.table.adds t.table.deletes
    t.table.locks (t.runs.many ∷ []) t.runs.starts t.runs.goals t.runs.counts t.runs.steps

-- A part that stands in the middle of the words is found at its place.
regroup : {ws : List ℕ} (p b c : List ℕ) → ws ≡ p ++ (b ++ c) → ws ≡ (p ++ b) ++ c
regroup p b c e = e ∙ sym (append_assoc p b c)

part_of : {ws : List ℕ} (p b c : List ℕ) (at n : ℕ) → ws ≡ p ++ (b ++ c) → length p ≡ at → length b ≡ n
    → take n (drop at ws) ≡ b
part_of p b c at n e lp lb = rw (e, drop_at p (b ++ c) at lp) (take_at b c n lb)

word_of : {ws : List ℕ} (p : List ℕ) (y : ℕ) (ys : List ℕ) (at : ℕ) → ws ≡ p ++ (y ∷ ys) → length p ≡ at → get_or ws at 0 ≡ y
word_of p y ys at e lp = rw e (get_or_at p y ys 0 at lp)

module _ (t : Task) (s : Shaped t) where
  abbrev head : List ℕ
  head = t.table.facts ∷ t.table.actions ∷ t.table.limit ∷ []

  -- What stands before the adds, the deletes, the locks, the runs, and the starts, the goals, the counts and the steps of these.
  abbrev to_adds : List ℕ
  to_adds = head ++ t.table.needs

  abbrev to_deletes : List ℕ
  to_deletes = to_adds ++ t.table.adds

  abbrev to_locks : List ℕ
  to_locks = to_deletes ++ t.table.deletes

  abbrev to_runs : List ℕ
  to_runs = to_locks ++ t.table.locks

  abbrev to_starts : List ℕ
  to_starts = to_runs ++ (t.runs.many ∷ [])

  abbrev to_goals : List ℕ
  to_goals = to_starts ++ t.runs.starts

  abbrev to_counts : List ℕ
  to_counts = to_goals ++ t.runs.goals

  abbrev to_steps : List ℕ
  to_steps = to_counts ++ t.runs.counts

  before_adds : length to_adds ≡ adds_at
  before_adds = omega (arith, length-append head t.table.needs, s.needs)

  before_deletes : length to_deletes ≡ deletes_at
  before_deletes = omega (arith, length-append to_adds t.table.adds, s.adds, before_adds)

  before_locks : length to_locks ≡ locks_at
  before_locks = omega (arith, length-append to_deletes t.table.deletes, s.deletes, before_deletes)

  before_runs : length to_runs ≡ table_words
  before_runs = omega (arith, length-append to_locks t.table.locks, s.locks, before_locks)

  before_starts : length to_starts ≡ starts_at
  before_starts = omega (arith, length-append to_runs (t.runs.many ∷ []), before_runs)

  before_goals : length to_goals ≡ goals_at
  before_goals = omega (arith, length-append to_starts t.runs.starts, s.starts, before_starts)

  before_counts : length to_counts ≡ counts_at
  before_counts = omega (arith, length-append to_goals t.runs.goals, s.goals, before_goals)

  before_steps : length to_steps ≡ steps_at
  before_steps = omega (arith, length-append to_counts t.runs.counts, s.counts, before_counts)

  at_adds : task_out t ≡ to_adds ++ (t.table.adds ++ (t.table.deletes ++ (t.table.locks ++ runs_flat t)))
  at_adds = regroup head t.table.needs (t.table.adds ++ (t.table.deletes ++ (t.table.locks ++ runs_flat t))) (flat t)

  at_deletes : task_out t ≡ to_deletes ++ (t.table.deletes ++ (t.table.locks ++ runs_flat t))
  at_deletes = regroup to_adds t.table.adds (t.table.deletes ++ (t.table.locks ++ runs_flat t)) at_adds

  at_locks : task_out t ≡ to_locks ++ (t.table.locks ++ runs_flat t)
  at_locks = regroup to_deletes t.table.deletes (t.table.locks ++ runs_flat t) at_deletes

  at_runs : task_out t ≡ to_runs ++ runs_flat t
  at_runs = regroup to_locks t.table.locks (runs_flat t) at_locks

  at_starts : task_out t ≡ to_starts ++ (t.runs.starts ++ (t.runs.goals ++ (t.runs.counts ++ t.runs.steps)))
  at_starts = regroup to_runs (t.runs.many ∷ []) (t.runs.starts ++ (t.runs.goals ++ (t.runs.counts ++ t.runs.steps))) at_runs

  at_goals : task_out t ≡ to_goals ++ (t.runs.goals ++ (t.runs.counts ++ t.runs.steps))
  at_goals = regroup to_starts t.runs.starts (t.runs.goals ++ (t.runs.counts ++ t.runs.steps)) at_starts

  at_counts : task_out t ≡ to_counts ++ (t.runs.counts ++ t.runs.steps)
  at_counts = regroup to_goals t.runs.goals (t.runs.counts ++ t.runs.steps) at_goals

  at_steps : task_out t ≡ to_steps ++ t.runs.steps
  at_steps = regroup to_counts t.runs.counts t.runs.steps at_counts

  steps_back : take all_steps (drop steps_at (task_out t)) ≡ t.runs.steps
  steps_back =
      rw (at_steps, drop_at to_steps t.runs.steps steps_at before_steps)
      (take_all all_steps t.runs.steps (omega (arith, s.steps)))

  -- Packing and unpacking: every task of the code is shaped, and its steps are bytes.
  pub unpack_pack : ((i : ℕ) → get_or t.runs.steps i 0 ≤ last_step) → task_in (task_out t) ≡ t
  unfolding task_in
  unpack_pack narrow =
      rw (
        eq-eqb (length (task_out t)) task_words (task_length t s),
        word_of [] t.table.facts _ 0 (flat t) refl,
        word_of (t.table.facts ∷ []) t.table.actions _ 1 (flat t) refl,
        word_of (t.table.facts ∷ t.table.actions ∷ []) t.table.limit _ 2 (flat t) refl,
        part_of head t.table.needs _ needs_at max_actions (flat t) refl s.needs,
        part_of to_adds t.table.adds _ adds_at max_actions at_adds before_adds s.adds,
        part_of to_deletes t.table.deletes _ deletes_at max_actions at_deletes before_deletes s.deletes,
        part_of to_locks t.table.locks _ locks_at max_actions at_locks before_locks s.locks,
        word_of to_runs t.runs.many _ table_words at_runs before_runs,
        part_of to_starts t.runs.starts _ starts_at max_runs at_starts before_starts s.starts,
        part_of to_goals t.runs.goals _ goals_at max_runs at_goals before_goals s.goals,
        part_of to_counts t.runs.counts _ counts_at max_runs at_counts before_counts s.counts,
        steps_back,
        steps_same t.runs.steps narrow,
      )

-- The words from a place on, as one word and the rest, and as one part and the rest.
word_off : (ws : List ℕ) (at : ℕ) → at < length ws → get_or ws at 0 ∷ drop (at + 1) ws ≡ drop at ws
word_off ws at h = rw add-one (sym (drop-cons ws at 0 h))

part_off : (ws : List ℕ) (at n : ℕ) → take n (drop at ws) ++ drop (at + n) ws ≡ drop at ws
part_off ws at n = ap (λ l. take n (drop at ws) ++ l) (sym (drop-drop n at ws)) ∙ take-append-drop n (drop at ws)

-- Another number of words than 668 is no well-formed task.
pub other_length : (ws : List ℕ) → (length ws ≡ task_words → ⊥) → formed (task_in ws) ≡ false
unfolding task_in formed sizes_formed
other_length ws h = rw (ne_eqb (length ws) task_words h)

-- Unpacking and packing: of 668 words whose steps fit a byte.
module _ (ws : List ℕ) (h : length ws ≡ task_words) where
  runs_off : ((i : ℕ) → get_or (take all_steps (drop steps_at ws)) i 0 ≤ last_step) → runs_flat (unpacked ws) ≡ drop table_words ws
  runs_off narrow =
      ap (λ l. get_or ws table_words 0 ∷ l)
      (ap (λ l. of_runs_at ws starts_at ++ l)
      (ap (λ l. of_runs_at ws goals_at ++ l)
      (ap (λ l. of_runs_at ws counts_at ++ l)
      (steps_same (take all_steps (drop steps_at ws)) narrow ∙ take_all all_steps (drop steps_at ws) (omega (arith, length-drop steps_at ws))) ∙
      part_off ws counts_at max_runs) ∙
      part_off ws goals_at max_runs) ∙
      part_off ws starts_at max_runs) ∙
      word_off ws table_words (omega arith)

  pub pack_unpack : ((i : ℕ) → get_or (take all_steps (drop steps_at ws)) i 0 ≤ last_step) → task_out (task_in ws) ≡ ws
  unfolding task_in
  pack_unpack narrow =
      rw (eq-eqb (length ws) task_words h)
      (flat (unpacked ws) ∙
      ap (λ l. (get_or ws 0 0 ∷ get_or ws 1 0 ∷ get_or ws 2 0 ∷ []) ++ l)
      (ap (λ l. masks_at ws needs_at ++ l)
      (ap (λ l. masks_at ws adds_at ++ l)
      (ap (λ l. masks_at ws deletes_at ++ l)
      (ap (λ l. masks_at ws locks_at ++ l) (runs_off narrow) ∙ part_off ws locks_at max_actions) ∙
      part_off ws deletes_at max_actions) ∙
      part_off ws adds_at max_actions) ∙
      part_off ws needs_at max_actions) ∙
      ap (λ l. get_or ws 0 0 ∷ get_or ws 1 0 ∷ l) (word_off ws 2 (omega arith)) ∙ ap (λ l. get_or ws 0 0 ∷ l) (word_off ws 1 (omega arith)) ∙
      word_off ws 0 (omega arith))
