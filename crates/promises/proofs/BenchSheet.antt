-- The bench sheet: its rows hold, all under one statement. Files and run checks are computed whole, each solve by its facts, one by one.
-- Assumes nothing.
use mathlib.Core.Bool.{true, false, cond}
use mathlib.Core.List.{List, [], ◌∷◌}
use mathlib.Core.Path.{◌≡◌, refl, sym, ap, ◌∙◌, subst}
use Prim.Native.Nat.{ℕ}
use Prim.Native.String.{String}
use lib.Dec.{eqb, ltb}
use lib.ListN.{length}
use native.Mathlib.Omega.{arith}
use borrow.Author.Tests.{ltb-true}
use Rattle.apply.proofs.PermittedLaws.{permitted_list}
use Rattle.apply.proofs.SittingLaws.{apart_by, second_apart, second_shared}
use Rattle.apply.specs.Applying.{wrong_at, first_wrong, Applies}
use Rattle.apply.specs.Sittings.{with_number, merged, first_shared, SplitInto}
use Rattle.change.proofs.EditLaws.{edited_exactly, edited_only}
use Rattle.change.specs.Editing.{edited, set_cell, cell_fact, cell_inside, cell_value, lock_left, leaves_lock, accepts}
use Rattle.change.specs.declared.Edit.{Edit}
use Rattle.facts.specs.Sets.{has, within, joined, removed, only}
use Rattle.listing.proofs.Determined.{listing_unique}
use Rattle.text.specs.Ascii.{bytes_of}
use Rattle.listing.specs.Listing.{ListsInto, answer_room}
use Rattle.text.specs.Text.{text_of, read_text, line, each, digits}
use Rattle.runcheck.specs.OpenNeeds.{open_needs, refused_check, states_of, checked, open_report, total_open, first_open, lowest_open, open_at, is_open, may_run, controller_at}
use Rattle.runcheck.specs.declared.Checked.{Checked}
use Rattle.session.proofs.CallLaws.{edit_outside, edit_locked, edit_clear, made_unique}
use Rattle.session.proofs.StoryLaws.{story_ends, ends_solved}
use Rattle.session.specs.Calls.{listed, told_all, then, made_none, made_set}
use Rattle.solve.proofs.SolveLaws.{solves_malformed, solves_verdict}
use Rattle.solve.specs.Solving.{told, Solves}
use Rattle.table.specs.Outcomes.{Outcome, refused, given}
use Rattle.table.proofs.DecidingLaws.{is_formed_lem}
use Rattle.table.proofs.FlagLaws.{and_left}
use Rattle.table.proofs.Formation.{formed_well, well_formed}
use Rattle.table.proofs.Worked.{worked}
use Rattle.table.specs.Deciding.{is_right, is_all_right, is_shaped, every_place, is_formed}
use Rattle.table.specs.Answer.{Verdict, found, over, hopeless}
use Rattle.table.specs.Bench.{listing_task, limited, stray_task, goals_at_start, goal_out_of_reach, adds_and_deletes, deletes_the_goal, needs_last_fact, pair_steps, pairs}
use Rattle.table.specs.Counting.{sum_below, count_below, first_where, every_below, some_below}
use Rattle.table.specs.Join.{is_hopeless, is_over, found_list, join_rows, read_against, join_verdicts}
use Rattle.table.specs.Lists.{gather}
use Rattle.table.specs.Order.{Ascending, is_in}
use Rattle.table.specs.Refusals.{first_of}
use Rattle.table.specs.Repairs.{permits, permitted, chosen}
use Rattle.table.specs.Sizes.{max_facts}
use Rattle.table.specs.Worked.{two_deletes, two_runs, locked_need, locked_first}
use Rattle.table.specs.Strips.{state_at}
use Rattle.table.specs.Tasks.{cells_of, course_of, formed, sizes_formed, run_fits, run_formed, mask_formed, action_formed, locks_formed, step_fits, step_formed, WellFormed, no_task}
use Rattle.table.specs.declared.Task.{Task}
use Rattle.taskformat.proofs.Function.{reads_total}
use Rattle.taskformat.proofs.Unique.{reads_unique}
use Rattle.taskformat.specs.Computed.{read_from, read_file}
use Rattle.taskformat.specs.Format.{is_kind, file_order, first_place, position_of, is_cell_kind, is_fact_kind, body_length}
use Rattle.taskformat.specs.Reading.{ReadsFile, refused_read, accepted_read, body_at, misplaced, sizes_wrong, outside, disordered, lock_stray, wrong_byte, place_of, faults_at, table_after, runs_after, seen_after}
use Rattle.table.specs.declared.TaskReply.{TaskReply}
use Rattle.promises.proofs.BadInputLaws.{edit_refused}
use Rattle.promises.proofs.CertificateLaws.{certified_well, certified_within, certified_only}
use Rattle.promises.proofs.SolvedLaws.{part_well, rest_within, rest_solved}
use Rattle.promises.specs.Determined.{Only}
use Rattle.promises.specs.Certificates.{is_right_with, mends, mend_both, none_mends, none_with, is_shut, certifies, certified, of_fact, parts_of}
use Rattle.promises.specs.Sheet.{reads, lists, checks, solves, refuses, works_later, edits, refuses_edit, sits, leaves, refuses_second, Stands, AllHold, all, ◌and◌, SittingStands, SittingsHold, no_more, ◌besides◌, delete_absent, untouched, listing_text, refused_text, stray_text, sheet, steps_of, refusal_files, two_runs_text, several_runs, keeps_the_goal, gives_nothing, tries_the_next, rejected_steps, locked_text, lock_set, need_cleared, stray_lock_set, lock_set_outside, locked_needs, two_sittings, figures}

-- ---- what is enough for a row of each kind

-- What reading computes is what its contract says, and the contract says it of one result.
read_row : (s : List ℕ) (n : ℕ) (r : TaskReply) → length s ≡ n → read_file s ≡ r → Stands (reads s n r)
read_row s n r e computed = let a = subst (ReadsFile s) computed (reads_total s) in (e, record { allowed = a; others = λ q b. reads_unique b a })

-- What the check of a run is: of a well-formed task that has the run, the report of its open needs.
check_is : (t : Task) (run : ℕ) (c : Checked) → is_formed t ≡ true → ltb run t.runs.many ≡ true
    → open_report (cells_of t.table) (course_of t.runs run) (states_of t run) ≡ c → checked t run ≡ c
unfolding checked
check_is t run c formed there e = rw ((is_formed_lem t formed).1, there) e

checked_row : (t : Task) (run : ℕ) (c : Checked) → checked t run ≡ c → Stands (checks t run c)
checked_row t run c e = record { allowed = sym e; others = λ q a. a ∙ e }

check_row : (t : Task) (run : ℕ) (c : Checked) → is_formed t ≡ true → ltb run t.runs.many ≡ true
    → open_report (cells_of t.table) (course_of t.runs run) (states_of t run) ≡ c → Stands (checks t run c)
check_row t run c formed there e = checked_row t run c (check_is t run c formed there e)

-- A run that isn't there.
no_run_row : (t : Task) (run : ℕ) → is_formed t ≡ true → ltb run t.runs.many ≡ false → Stands (checks t run (refused_check 14))
unfolding checked
no_run_row t run formed gone = checked_row t run (refused_check 14) (rw ((is_formed_lem t formed).1, gone))

-- By the verdicts of its single facts, the parts of a list or hopeless each, whose join is the task's.
solve_row : (t : Task) (l : List ℕ) → certified t (parts_of (found l)) ≡ true
    → join_verdicts (parts_of (found l)) t.table.facts t.table.limit ≡ found l → Stands (solves t l)
unfolding told
solve_row t l sound joins = certified_only t (parts_of (found l)) sound (found l) joins

-- Refused as over the limit, or as hopeless.
refuse_row : (t : Task) (v : Verdict) (parts : ℕ → Verdict) (n : ℕ) → certified t parts ≡ true → join_verdicts parts t.table.facts t.table.limit ≡ v
    → ((room : List ℕ) → told v room ≡ refused n room) → Stands (refuses t n)
refuse_row t v parts n sound joins tells room = subst (Only (Solves t room)) (tells room) (certified_only t parts sound v joins room)

-- By what reading the file, checking its runs and solving it give.
list_row : (file : List ℕ) (text : String) (r : TaskReply) (o : Outcome) → read_file file ≡ r → Solves r.task answer_room o
    → bytes_of text ≡ text_of r (checked r.task) o → Stands (lists file text)
list_row file text r o computed solve e room =
    let done : ListsInto file room (given (bytes_of text) room) = record {
      text = bytes_of text;
      lists = record {
        read = r;
        reads = subst (ReadsFile file) computed (reads_total file);
        solved = o;
        solves = solve;
        text_is = e;
      };
      outcome = refl;
    } in
    record { allowed = done; others = λ q also. listing_unique also done }

-- By demand 3: a listing after the edit tells what a fresh solve of the edited task tells.
edit_row : (t : Task) (e : Edit) (l : List ℕ) (kept : ℕ) → WellFormed t → accepts t e ≡ true
    → is_in (cell_fact e.cell ∷ []) kept ≡ false → ltb kept max_facts ≡ true → Stands (solves (edited t e) l) → Stands (edits t e l kept)
edit_row t e l kept w made unnamed low fresh s₀ s after r₀ r opening opens editing =
    let stored = (opening.opened opens).1 in
    let done = story_ends t s (e ∷ []) r.task after w stored (then editing told_all) in
    let accepted = editing.number ∙ ap (λ (x : _). x.number) (edit_clear t s e (well_formed t w) stored.places made) in
    let is = (editing.accepted accepted).0 in
    let task = edited_only t e r.task (edited t e) is (edited_exactly t e w (and_left (cell_inside t e.cell) _ made)) in
    let named = (made_unique t (e ∷ []) done.named (cell_fact e.cell ∷ []) r.task r.task done.made (made_set made is made_none)).0 in (
      accepted,
      λ room.
          ends_solved done room (listed r.task after room) (given l room) refl
          (subst (λ (u : Task). Solves u room (given l room)) (sym task) (fresh room).allowed),
      done.kept kept (ltb-true kept max_facts low) (ap (λ (fs : List ℕ). is_in fs kept) named ∙ unnamed),
    )

-- An edit that would leave a lock without a need, and one that names what isn't there.
locked_row : (t : Task) (e : Edit) → is_formed t ≡ true → cell_inside t e.cell ≡ true → leaves_lock t e ≡ true → Stands (refuses_edit t e 18)
locked_row t e formed inside locked s after r long a =
    edit_refused t s e 18 (omega arith) (edit_locked t s e (is_formed_lem t formed).1 long inside locked) r a

outside_row : (t : Task) (e : Edit) → is_formed t ≡ true → cell_inside t e.cell ≡ false → Stands (refuses_edit t e 14)
outside_row t e formed outside s after r long a = edit_refused t s e 14 (omega arith) (edit_outside t s e (is_formed_lem t formed).1 long outside) r a

-- Two ascending lists that share nothing, as far as computing tells, and are the list together.
split_by : (l a b : List ℕ) → Ascending a → Ascending b → first_shared a b ≡ length b → merged a b ≡ l → SplitInto l a b
split_by l a b u v none e = record { morning_ascending = u; afternoon_ascending = v; apart = apart_by a b none; whole = e }

-- By the answer of the whole task: what is left of it.
leave_row : (t : Task) (l a b : List ℕ) → certified t (parts_of (found l)) ≡ true
    → join_verdicts (parts_of (found l)) t.table.facts t.table.limit ≡ found l → SplitInto l a b → SittingStands (leaves t a b)
unfolding told
leave_row t l a b sound joins split r morning room =
    let w = certified_well t (parts_of (found l)) sound in
    let x = certified_within t (parts_of (found l)) sound (found l) joins in
    let well = part_well t w l x.0 x.1 a b split r morning in
    let rest = rest_within t w l x.0 x.1 a b split r morning in
    record {
      allowed = solves_verdict r.task room well (found b) rest (given b room) refl;
      others = λ q s. rest_solved t w l x.0 x.1 a b split r morning room q s;
    }

-- Lists none of whose numbers is wrong, one after the other.
sit_row : (t : Task) (a b l : List ℕ) → is_formed t ≡ true → first_wrong (cells_of t.table) a ≡ length a → first_wrong (cells_of t.table) b ≡ length b
    → first_shared a b ≡ length b → merged a b ≡ l → SittingStands (sits t a b l)
sit_row t a b l formed fine good none e r s m morning afternoon at_once =
    let q = is_formed_lem t formed in
    let c = cells_of t.table in
    second_apart t (formed_well t q.0 q.1) a b (permitted_list c a fine) (permitted_list c b good) r s morning afternoon (apart_by a b none) m
    (subst (λ (k : List ℕ). Applies t k m) (sym e) at_once)

second_row : (t : Task) (a b : List ℕ) (i : ℕ) → is_formed t ≡ true → first_wrong (cells_of t.table) a ≡ length a
    → first_wrong (cells_of t.table) b ≡ length b → first_shared a b ≡ i → ltb i (length b) ≡ true → SittingStands (refuses_second t a b i)
second_row t a b i formed fine good e low r s morning afternoon =
    let q = is_formed_lem t formed in
    let c = cells_of t.table in
    second_shared t (formed_well t q.0 q.1) a b (permitted_list c a fine) (permitted_list c b good) r s morning afternoon
    (omega (arith, e, ltb-true i (length b) low)) ∙
    ap (λ (j : ℕ). record { number = 15; place = j; task = r.task }) e

-- ---- the sheet, and the sources' examples

-- The list of case 2.
abbrev pair : List ℕ
pair = 97 ∷ 224 ∷ []

-- Of all facts this one is hopeless, and the others are right.
abbrev shut_at : ℕ → ℕ → Verdict
shut_at g f = cond {A = Verdict} (eqb f g) hopeless (found [])

-- The list of the locked need's task.
abbrev locked_pair : List ℕ
locked_pair = 0 ∷ 1 ∷ []

-- What is told of no list.
over_told : (room : List ℕ) → told over room ≡ refused 10 room
unfolding told
over_told room = refl

hopeless_told : (room : List ℕ) → told hopeless room ≡ refused 9 room
unfolding told
hopeless_told room = refl

listing_text_lem : (c : ℕ → Checked) → c 0 ≡ open_needs 3 3 1 → bytes_of listing_text ≡ text_of (accepted_read listing_task) c (given pair answer_room)
unfolding given text_of read_text line each digits gather sum_below
listing_text_lem c e = rw e

two_runs_text_lem : (c : ℕ → Checked) → c 0 ≡ open_needs 1 2 0 → c 1 ≡ open_needs 1 2 0
    → bytes_of two_runs_text ≡ text_of (accepted_read two_runs) c (given (32 ∷ []) answer_room)
unfolding given text_of read_text line each digits gather sum_below
two_runs_text_lem c e g = rw (e, g)

locked_text_lem : (c : ℕ → Checked) → c 0 ≡ open_needs 2 2 0 → bytes_of locked_text ≡ text_of (accepted_read locked_need) c (given locked_pair answer_room)
unfolding given text_of read_text line each digits gather sum_below
locked_text_lem c e = rw e

refused_texts : (c : ℕ → Checked) (o : Outcome)
    → (bytes_of refused_text ≡ text_of (refused_read 8 36) c o) × (bytes_of stray_text ≡ text_of (refused_read 5 34) c o)
unfolding text_of read_text line each digits
refused_texts c o = (refl, refl)

-- 7: "32 works too, and comes later"
later_row : Stands (works_later deletes_the_goal (32 ∷ []) (0 ∷ []))
later_row = (worked.row_7.1, worked.row_7.2)

-- All lists under one, so that what is computed is named once.
computed : AllHold sheet × AllHold refusal_files × AllHold several_runs × AllHold rejected_steps × AllHold locked_needs × AllHold figures
unfolding read_file read_from faults_at wrong_byte place_of first_of is_kind file_order first_place position_of is_cell_kind is_fact_kind body_length body_at misplaced sizes_wrong outside disordered lock_stray table_after runs_after seen_after checked open_report total_open first_open lowest_open open_at is_open may_run controller_at sum_below count_below first_where pair_steps steps_of certified certifies mends mend_both none_mends none_with is_shut is_right_with is_right is_all_right is_formed is_shaped every_place of_fact formed sizes_formed run_formed run_fits action_formed mask_formed locks_formed step_formed step_fits every_below cells_of course_of state_at permitted permits chosen is_in has within joined removed only set_cell gather some_below is_hopeless is_over found_list cell_inside lock_left cell_value join_rows read_against
computed = (
  read_row _ _ _ refl refl and
      read_row _ _ _ refl refl and
      check_row listing_task 0 _ refl refl refl and
      solve_row _ _ refl refl and
      list_row _ listing_text (accepted_read listing_task) _ refl (solve_row listing_task pair refl refl answer_room).allowed (listing_text_lem (checked listing_task) (check_is listing_task 0 _ refl refl refl)) and
      refuse_row (limited 1) over (parts_of (found pair)) 10 refl refl over_told and
      solve_row _ _ refl refl and
      check_row goals_at_start 0 _ refl refl refl and
      solve_row _ _ refl refl and
      check_row goal_out_of_reach 0 _ refl refl refl and
      refuse_row goal_out_of_reach hopeless (parts_of hopeless) 9 refl refl hopeless_told and
      check_row adds_and_deletes 0 _ refl refl refl and
      solve_row _ _ refl refl and
      check_row deletes_the_goal 0 _ refl refl refl and
      solve_row _ _ refl refl and
      later_row and
      check_row needs_last_fact 0 _ refl refl refl and
      solve_row _ _ refl refl and
      edit_row listing_task delete_absent _ untouched (certified_well listing_task (parts_of (found pair)) refl) refl refl refl (solve_row _ _ refl refl) and
      read_row _ _ _ refl refl and
      read_row _ _ _ refl refl and
      list_row _ refused_text (refused_read 8 36) (refused 12 answer_room) refl
      (solves_malformed no_task answer_room _ refl refl) (refused_texts _ _).0 and
      read_row _ _ _ refl refl and
      list_row _ stray_text (refused_read 5 34) (refused 12 answer_room) refl
      (solves_malformed no_task answer_room _ refl refl) (refused_texts _ _).1 and
      checked_row stray_task 0 _ refl and
      check_row (pairs 6) 0 _ refl refl refl and
      check_row (pairs 7) 0 _ refl refl refl and
      all,
  read_row _ _ _ refl refl and
      read_row _ _ _ refl refl and
      read_row _ _ _ refl refl and
      read_row _ _ _ refl refl and
      read_row _ _ _ refl refl and
      read_row _ _ _ refl refl and
      read_row _ _ _ refl refl and
      read_row _ _ _ refl refl and
      read_row _ _ _ refl refl and
      read_row _ _ _ refl refl and
      read_row _ _ _ refl refl and
      read_row _ _ _ refl refl and
      read_row _ _ _ refl refl and
      read_row _ _ _ refl refl and
      read_row _ _ _ refl refl and
      read_row _ _ _ refl refl and
      read_row _ _ _ refl refl and
      read_row _ _ _ refl refl and
      read_row _ _ _ refl refl and
      read_row _ _ _ refl refl and
      read_row _ _ _ refl refl and
      read_row _ _ _ refl refl and
      read_row _ _ _ refl refl and
      read_row _ _ _ refl refl and
      read_row _ _ _ refl refl and
      read_row _ _ _ refl refl and
      read_row _ _ _ refl refl and
      read_row _ _ _ refl refl and
      read_row _ _ _ refl refl and
      read_row _ _ _ refl refl and
      all,
  read_row _ _ _ refl refl and
      check_row two_runs 1 _ refl refl refl and
      no_run_row two_runs 2 refl refl and
      solve_row _ _ refl refl and
      list_row _ two_runs_text (accepted_read two_runs) _ refl (solve_row two_runs (32 ∷ []) refl refl answer_room).allowed
      (two_runs_text_lem (checked two_runs) (check_is two_runs 0 _ refl refl refl) (check_is two_runs 1 _ refl refl refl)) and
      all,
  refl and
      check_row keeps_the_goal 0 _ refl refl refl and
      refl and
      check_row gives_nothing 0 _ refl refl refl and
      refl and
      check_row tries_the_next 0 _ refl refl refl and
      refl and
      all,
  read_row _ _ _ refl refl and
      check_row locked_need 0 _ refl refl refl and
      solve_row _ _ refl refl and
      solve_row _ _ refl refl and
      list_row _ locked_text (accepted_read locked_need) _ refl (solve_row locked_need locked_pair refl refl answer_room).allowed
      (locked_text_lem (checked locked_need) (check_is locked_need 0 _ refl refl refl)) and
      refuse_row locked_first hopeless (shut_at 63) 9 refl refl hopeless_told and
      edit_row two_deletes lock_set _ 1 (certified_well two_deletes (parts_of (found (66 ∷ []))) refl) refl refl refl (solve_row _ _ refl refl) and
      locked_row locked_need need_cleared refl refl refl and
      locked_row two_deletes stray_lock_set refl refl refl and
      outside_row two_deletes lock_set_outside refl refl and
      all,
  solve_row _ _ refl refl and solve_row _ _ refl refl and all,
)

pub bench_sheet : AllHold sheet
bench_sheet = computed.0

pub refusal_files_lem : AllHold refusal_files
refusal_files_lem = computed.1

pub several_runs_lem : AllHold several_runs
several_runs_lem = computed.2

pub rejected_steps_lem : AllHold rejected_steps
rejected_steps_lem = computed.3

pub locked_needs_lem : AllHold locked_needs
locked_needs_lem = computed.4

pub source_figures : AllHold figures
source_figures = computed.5

pub two_sittings_lem : SittingsHold two_sittings
unfolding read_file read_from faults_at wrong_byte place_of first_of is_kind file_order first_place position_of is_cell_kind is_fact_kind body_length body_at misplaced sizes_wrong outside disordered lock_stray table_after runs_after seen_after checked open_report total_open first_open lowest_open open_at is_open may_run controller_at sum_below count_below first_where pair_steps steps_of certified certifies mends mend_both none_mends none_with is_shut is_right_with is_right is_all_right is_formed is_shaped every_place of_fact formed sizes_formed run_formed run_fits action_formed mask_formed locks_formed step_formed step_fits every_below cells_of course_of state_at permitted permits chosen is_in has within joined removed only set_cell gather some_below is_hopeless is_over found_list cell_inside lock_left cell_value join_rows read_against merged with_number first_shared first_wrong wrong_at
two_sittings_lem =
    refl besides
    leave_row listing_task pair _ _ refl refl (split_by pair (97 ∷ []) (224 ∷ []) (omega arith, tt) (omega arith, tt) refl refl) besides
    sit_row listing_task _ _ _ refl refl refl refl refl besides
    leave_row listing_task pair _ _ refl refl (split_by pair (224 ∷ []) (97 ∷ []) (omega arith, tt) (omega arith, tt) refl refl) besides
    sit_row listing_task _ _ _ refl refl refl refl refl besides
    sit_row listing_task _ _ _ refl refl refl refl refl besides
    leave_row locked_need locked_pair _ _ refl refl (split_by locked_pair (1 ∷ []) (0 ∷ []) (omega arith, tt) (omega arith, tt) refl refl) besides
    leave_row listing_task pair _ _ refl refl (split_by pair [] pair tt (omega arith, (omega arith, tt)) refl refl) besides
    second_row listing_task _ _ 3 refl refl refl refl refl besides
    no_more
