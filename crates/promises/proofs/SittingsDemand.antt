-- 02, request 7, lists in two sittings, as one theorem over the calls: a field for each phrase. `ApplyGives t l r` says that a call of `apply` with this
-- task and this list gave r, and that the contract above the function allows it; so for every call. Assumes nothing.
use mathlib.Core.Bool.{true, false, ◌||◌}
use mathlib.Core.List.{List, []}
use mathlib.Core.Path.{◌≡◌, ap, ◌∙◌, subst}
use Prim.Native.Nat.{ℕ, ◌<◌}
use lib.ListN.{length, get_or}
use Rattle.apply.proofs.ApplyLaws.{permitted_accepted}
use Rattle.apply.proofs.Called.{ApplyGives, apply_gives}
use Rattle.apply.proofs.MergeLaws.{merged_in, merged_ascending, merged_only, merged_swap, split_swap}
use Rattle.apply.proofs.SittingLaws.{merged_permitted, shared_at, some_shared, nothing_applied, second_apart, second_shared}
use Rattle.apply.specs.Sittings.{merged, Apart, first_shared, SplitInto}
use Rattle.runcheck.proofs.Called.{CheckGives, check_gives}
use Rattle.runcheck.specs.declared.Checked.{Checked}
use Rattle.solve.proofs.Called.{SolveGives, solve_gives}
use Rattle.table.specs.Answer.{Permitted}
use Rattle.table.specs.Order.{Ascending, is_in}
use Rattle.table.specs.Outcomes.{Outcome, given}
use Rattle.table.specs.Strips.{AllValid}
use Rattle.table.specs.Tasks.{cells_of, courses_of, WellFormed}
use Rattle.table.specs.declared.Task.{Task}
use Rattle.table.specs.declared.TaskReply.{TaskReply}
use Rattle.promises.proofs.Demands.{wrote}
use Rattle.promises.proofs.SolvedLaws.{wrote_answer, works_cures, part_accepted, part_well, rest_within, rest_solved, rest_whole}

-- A list applied in the morning, and another in the afternoon to the table that came out: what the two calls gave.
pub record TwoCalls (t : Task) (morning afternoon : List ℕ) (r s : TaskReply) : Type 0 where
  pub first_call : ApplyGives t morning r
  pub second_call : ApplyGives r.task afternoon s

-- ---- "for two lists permitted on one table that share no number, applying them in either order gives the merged list's table"

-- "the merged list" ascends and has the numbers of both lists, and no other list does both.
pub record IsMerged (a b m : List ℕ) : Type 0 where
  pub ascending : Ascending m
  pub numbers : (n : ℕ) → is_in m n ≡ (is_in a n || is_in b n)
  pub only : (l : List ℕ) → Ascending l → ((n : ℕ) → is_in l n ≡ (is_in a n || is_in b n)) → l ≡ m

-- Both calls are accepted, and the second gives m.
abbrev pub EndsIn : Task → List ℕ → List ℕ → TaskReply → Type 0
EndsIn t morning afternoon m = (r s : TaskReply) → TwoCalls t morning afternoon r s → (r.number ≡ 0) × (s.number ≡ 0) × (s ≡ m)

-- The merged list is permitted on the table given, applying it is accepted, and what that gives is what either order ends in.
pub record EitherOrder (t : Task) (a b : List ℕ) : Type 0 where
  pub permitted : Permitted (cells_of t.table) (merged a b)
  pub at_once : (m : TaskReply) → ApplyGives t (merged a b) m → m.number ≡ 0
  pub this_way : (m : TaskReply) → ApplyGives t (merged a b) m → EndsIn t a b m
  pub other_way : (m : TaskReply) → ApplyGives t (merged a b) m → EndsIn t b a m

-- ---- "If they share a number, the second call gives 15 at the first one shared."

pub record Shared (a b : List ℕ) (r s : TaskReply) : Type 0 where
  -- the first call is accepted; the second is refused, and gives back the task that the first one made
  pub taken : r.number ≡ 0
  pub refused : s ≡ record { number = 15; place = first_shared a b; task = r.task }
  -- the place is the index in the second list of the first number that both have
  pub inside : first_shared a b < length b
  pub both_have : is_in a (get_or b (first_shared a b) 0) ≡ true
  pub none_before : (i : ℕ) → i < first_shared a b → is_in a (get_or b i 0) ≡ false

-- ---- "Curators accept part of a list in the morning and the rest later."

-- Of an answered list l a part was applied to t, which gave r; the rest is left.
pub record HalfMade (t : Task) (l rest : List ℕ) (r : TaskReply) : Type 0 where
  pub taken : r.number ≡ 0
  pub well : WellFormed r.task
  -- a solve of the table as it then stands answers exactly the rest, or 11 where the room is shorter
  pub left : (room : List ℕ) (o : Outcome) → SolveGives r.task room o → o ≡ given rest room
  -- the rest is accepted, every run is then valid, and the run check finds nothing open in any
  pub cures : (s : TaskReply) → ApplyGives r.task rest s
      → (s.number ≡ 0) × AllValid (cells_of s.task.table) (courses_of s.task) ×
      ((run : ℕ) → run < s.task.runs.many → (c : Checked) → CheckGives s.task run c → c.total ≡ 0)
  -- and it is the table of the whole list
  pub whole : (s m : TaskReply) → ApplyGives r.task rest s → ApplyGives t l m → s ≡ m

-- Whichever of the two parts is made first. (What is left is an answered list again, so that it may be split further.)
pub record EitherHalf (t : Task) (l a b : List ℕ) : Type 0 where
  pub this_first : (r : TaskReply) → ApplyGives t a r → HalfMade t l b r
  pub other_first : (r : TaskReply) → ApplyGives t b r → HalfMade t l a r

-- For every well-formed task, with its runs and its locks.
pub record Sittings : Type 0 where
  -- (it is enough that the second ascends)
  pub merged_list : (a b : List ℕ) → Ascending b → IsMerged a b (merged a b)
  pub either_order : (t : Task) → WellFormed t → (a b : List ℕ) → Permitted (cells_of t.table) a → Permitted (cells_of t.table) b → Apart a b
      → EitherOrder t a b
  -- "The empty list changes nothing."
  pub nothing : (t : Task) → WellFormed t → (r : TaskReply) → ApplyGives t [] r → r ≡ record { number = 0; place = 0; task = t }
  pub shared : (t : Task) → WellFormed t → (a b : List ℕ) → Permitted (cells_of t.table) a → Permitted (cells_of t.table) b
      → (n : ℕ) → is_in a n ≡ true → is_in b n ≡ true → (r s : TaskReply) → TwoCalls t a b r s → Shared a b r s
  -- any split of an answered list
  pub halves : (t : Task) → WellFormed t → (room : List ℕ) (o : Outcome) → SolveGives t room o → o.reply.number ≡ 0
      → (a b : List ℕ) → SplitInto (wrote o) a b → EitherHalf t (wrote o) a b

-- ---- the theorem

module _ (t : Task) (w : WellFormed t) where
  ends_in : (a b : List ℕ) → Permitted (cells_of t.table) a → Permitted (cells_of t.table) b → Apart a b → (m : TaskReply)
      → ApplyGives t (merged a b) m → EndsIn t a b m
  ends_in a b p q apart m at_once r s calls =
      let morning = apply_gives t a r calls.first_call in
      let afternoon = apply_gives r.task b s calls.second_call in
      let done = second_apart t w a b p q r s morning afternoon apart m (apply_gives t (merged a b) m at_once) in
      (permitted_accepted t w a p r morning, done.0, done.1)

  either_way : (a b : List ℕ) → Permitted (cells_of t.table) a → Permitted (cells_of t.table) b → Apart a b → EitherOrder t a b
  either_way a b p q apart =
      let fine = merged_permitted (cells_of t.table) a p b q in
      let same = merged_swap a b p.ascending q.ascending in
      record {
        permitted = fine;
        at_once = λ m g. permitted_accepted t w (merged a b) fine m (apply_gives t (merged a b) m g);
        this_way = ends_in a b p q apart;
        other_way = λ m g. ends_in b a q p (λ n h k. apart n k h) m (subst (λ (l : List ℕ). ApplyGives t l m) same g);
      }

  share : (a b : List ℕ) → Permitted (cells_of t.table) a → Permitted (cells_of t.table) b → (n : ℕ) → is_in a n ≡ true → is_in b n ≡ true
      → (r s : TaskReply) → TwoCalls t a b r s → Shared a b r s
  share a b p q n h k r s calls =
      let morning = apply_gives t a r calls.first_call in
      let some = some_shared a b n h k in
      record {
        taken = permitted_accepted t w a p r morning;
        refused = second_shared t w a b p q r s morning (apply_gives r.task b s calls.second_call) some;
        inside = some;
        both_have = (shared_at a b).holds some;
        none_before = (shared_at a b).before;
      }

  half_made : (room : List ℕ) (o : Outcome) → SolveGives t room o → o.reply.number ≡ 0 → (a b : List ℕ) → SplitInto (wrote o) a b
      → (r : TaskReply) → ApplyGives t a r → HalfMade t (wrote o) b r
  half_made room o g ok a b split r h =
      let x = wrote_answer t w room o (solve_gives t room o g) ok in
      let morning = apply_gives t a r h in
      let well = part_well t w (wrote o) x.0 x.1 a b split r morning in
      record {
        taken = part_accepted t w (wrote o) x.0 x.1 a b split r morning;
        well = well;
        left = λ room p k. rest_solved t w (wrote o) x.0 x.1 a b split r morning room p (solve_gives r.task room p k);
        cures = λ s k.
            let works = (rest_within t w (wrote o) x.0 x.1 a b split r morning).0.member in
            let done = works_cures r.task well b works s (apply_gives r.task b s k) in
            (done.0, done.1, λ run there c v. ap (λ (q : Checked). q.total) (check_gives s.task run c v) ∙ done.2 run there);
        whole = λ s m k v.
            rest_whole t w (wrote o) x.0 x.1 a b split r morning s m (apply_gives r.task b s k) (apply_gives t (wrote o) m v);
      }

pub sittings : Sittings
sittings = record {
  merged_list = λ a b up. record { ascending = merged_ascending a b up; numbers = merged_in a b; only = λ l. merged_only a b l up };
  either_order = either_way;
  nothing = λ t w r g. nothing_applied t w r (apply_gives t [] r g);
  shared = share;
  halves = λ t w room o g ok a b split. record {
    this_first = half_made t w room o g ok a b split;
    other_first = half_made t w room o g ok b a (split_swap (wrote o) a b split);
  };
}
