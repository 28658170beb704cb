-- Laws of putting together: the parts that are read, and the ways out. Assumes nothing.
use mathlib.Core.Bool.{Bool, cond, ◌&&◌}
use mathlib.Core.List.{List}
use mathlib.Core.Path.{◌≡◌, refl, sym, ap, ◌∙◌, subst}
use Prim.Native.Nat.{ℕ, ◌+◌, ◌-◌, ◌≤◌}
use native.Mathlib.Omega.{arith}
use lib.Dec.{eqb}
use lib.ListN.{length, take, drop, length-take, length-drop}
use Rattle.std.specs.Prelude.{Result, Ok, Err}
use Rattle.std.specs.Result.{result_unwrap_or}
use Rattle.pddl.specs.Readings.{ReadsDomain}
use Rattle.table.specs.Outcomes.{read_of}
use Rattle.table.specs.Refusals.{not_well_formed, number_of}
use Rattle.table.specs.Tasks.{no_task}
use Rattle.table.specs.declared.Task.{Task}
use Rattle.table.specs.declared.TaskReply.{TaskReply}
use Rattle.table.specs.declared.refusals.Refusal.{Refusal}
use Rattle.taskformat.specs.Reading.{ReadsFile, accepted_read, refused_read}
use Rattle.frompddl.specs.Gathering.{Gathers}
use Rattle.frompddl.specs.Splitting.{text_end, TextsEnd}
use Rattle.frompddl.specs.Together.{beside_of, TextsCome, answer_of, PutsTogether}
use Rattle.frompddl.specs.declared.gather.Gathered.{Gathered}
use Rattle.frompddl.proofs.PlaceLaws.{file_place}
use Rattle.frompddl.proofs.SplitLaws.{all_behind, end_inside, behind_inside}

-- ---- the parts that are read

pub beside_is : (file : Result Task Refusal) (none beside : Task) → none ≡ no_task → beside ≡ result_unwrap_or file none → beside ≡ beside_of file
beside_is (Ok t) none beside zeros e = e
beside_is (Err e) none beside zeros d = d ∙ zeros

module _ (s : List ℕ) (start : ℕ) (behind : TextsEnd s start (text_end s 0)) (file : Result Task Refusal)
    (file_read : ReadsFile (take (length s - start) (drop start s)) (read_of file)) where
  -- The place of the task file's refusal, counted from the input's beginning, lies in the input.
  pub place_inside : start + (read_of file).place ≤ length s
  place_inside =
      omega (arith, file_place file_read, behind_inside behind (end_inside s 0), length-take (length s - start) (drop start s), length-drop start s)

  -- What stands beside the texts, and where the first of them ends, as the code has it.
  module _ (none beside : Task) (zeros : none ≡ no_task) (b : beside ≡ result_unwrap_or file none) (first : ℕ) (e : first ≡ text_end s 0) where
    pub puts_together : {r : TaskReply} (domain : Result Task Refusal) → ReadsDomain (take first s) beside.table.limit (read_of domain)
        → (runs : Result Gathered Refusal) → TextsCome s beside first domain runs → r ≡ answer_of runs file start → PutsTogether s r
    puts_together domain domain_read runs come answer =
        let is = beside_is file none beside zeros b in
        let from-none : text_end s 0 ≡ text_end s 0 - 0 = omega arith in
        record {
          start = start;
          behind = behind;
          file = file;
          file_read = subst (λ (l : List ℕ). ReadsFile l (read_of file)) (all_behind s start) file_read;
          domain = domain;
          domain_read =
              subst (λ (n : ℕ). ReadsDomain (take n s) (beside_of file).table.limit (read_of domain)) (e ∙ from-none)
              (subst (λ (t : Task). ReadsDomain (take first s) t.table.limit (read_of domain)) is domain_read);
          runs = runs;
          come =
              subst (λ (n : ℕ). TextsCome s (beside_of file) n domain runs) e
              (subst (λ (t : Task). TextsCome s t first domain runs) is come);
          answer = answer;
        }

    -- ---- behind the texts

    module _ (domain : Task) (domain_read : ReadsDomain (take first s) beside.table.limit (accepted_read domain)) (runs : Gathered)
        (come : Gathers s beside (Ok runs) first 0 domain) where
      pub file_out : {r : TaskReply} (e : Refusal) → file ≡ Err e → r ≡ refused_read (number_of e.why) (start + e.place) → PutsTogether s r
      file_out e is told =
          puts_together (Ok domain) domain_read (Ok runs) come (told ∙ ap (λ (f : Result Task Refusal). answer_of (Ok runs) f start) (sym is))

      pub last_out : {r : TaskReply} (t : Task) → file ≡ Ok t → (m : Bool)
          → (eqb runs.texts beside.runs.many && eqb runs.task.runs.many beside.runs.many) ≡ m
          → r ≡ cond {A = TaskReply} m (accepted_read runs.task) (refused_read not_well_formed 0) → PutsTogether s r
      last_out t is m matched told =
          let same : t.runs.many ≡ beside.runs.many = sym (ap (λ (u : Task). u.runs.many) (beside_is file none beside zeros b ∙ ap beside_of is)) in
          puts_together (Ok domain) domain_read (Ok runs) come (told ∙ rw (is, same, matched) refl)
