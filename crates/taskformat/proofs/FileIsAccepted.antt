-- The file of a well-formed task is accepted, and that task is read. Assumes nothing.
use mathlib.Core.Bool.{Bool, true, false}
use mathlib.Core.List.{List, [], ◌∷◌, ◌++◌, append_assoc, append-nil}
use mathlib.Core.Path.{◌≡◌, refl, sym, ap, ◌∙◌, subst, subst₂}
use Prim.Native.Nat.{ℕ, zero, suc, ◌+◌, ◌-◌, ◌<◌, ◌≤◌}
use native.Mathlib.Omega.{arith}
use lib.Dec.{eqb}
use lib.ListN.{length, get_or, length-append}
use lib.Seq.{get_or-append-add}
use borrow.Author.Tests.{eqb-true, eqb-false, ne_eqb}
use Rattle.table.specs.Lists.{gather}
use Rattle.table.specs.Tasks.{WellFormed}
use Rattle.table.specs.declared.Task.{Task}
use Rattle.taskformat.specs.Format.{sizes_kind, end_kind, is_cell_kind, body_length, file_of}
use Rattle.taskformat.specs.Reading.{Seen, nothing_seen, kind_at, byte_at, body_at, next_at, seen_after, table_after, accepted_read, Reads, ReadsFile, good, ended}
use Rattle.taskformat.proofs.Clear.{faultless}
use Rattle.table.proofs.GatherLaws.{gather_more, gather_next}
use Rattle.taskformat.proofs.Ranks.{ranks, rank, piece_at, no_piece, first_piece, none_before, sizes_first}
use Rattle.taskformat.proofs.Sections.{file_by_rank}
use Rattle.taskformat.proofs.PositionLaws.{order, apart}
use Rattle.taskformat.proofs.Fitting.{Fitted, fitted, slot_of, record_length}
use Rattle.taskformat.proofs.OneMore.{task_after}
use Rattle.taskformat.proofs.RecordsAfter.{piece_after}
use Rattle.table.proofs.FlagLaws.{by_order}
use Rattle.taskformat.proofs.Standing.{Standing, last_rank, good_next}
use Rattle.taskformat.proofs.FirstRecord.{bare_task, bare_seen, bare_rank, seen_first, stands_first}
use Rattle.taskformat.proofs.GoodRecord.{clear_later, clear_end, clear_first}
use Rattle.taskformat.proofs.NextRecord.{Agrees, Here, Look, absent, bare, short, long, look}
use Rattle.taskformat.proofs.SameTask.{same_task}

-- After the first record.
agrees_first : (t : Task) (b : ℕ) → Agrees t (bare_seen t.table.facts t.table.actions t.table.limit b) (suc (rank 0 sizes_kind 0))
unfolding bare_task task_after table_after
agrees_first t b = record {
  sizes = record { facts = refl; actions = refl; limit = refl };
  pieces = λ q l.
      by_order q (rank 0 sizes_kind 0) (λ low. no_piece bare q low ∙ sym (no_piece t q low))
      (λ high. let is : q ≡ rank 0 sizes_kind 0 = omega arith in rw is (first_piece bare ∙ sym (first_piece t)));
}
  where
    bare : Task
    bare = bare_task t.table.facts t.table.actions t.table.limit

-- ---- the bytes of a file around a rank

-- A byte of the file after the bytes before a rank.
byte_of : (s before after : List ℕ) (m n : ℕ) → s ≡ before ++ after → m ≡ length before + n → get_or s m 0 ≡ get_or after n 0
byte_of s before after m n e d = rw (e, d) (get_or-append-add before after n 0)

-- The bytes after the record of a rank.
rest_of : Task → ℕ → List ℕ
rest_of t r = gather (λ i. piece_at t (suc r + i)) (ranks - suc r) ++ end_kind ∷ []

file_split : (t : Task) (s : List ℕ) → s ≡ gather (piece_at t) ranks ++ end_kind ∷ [] → (r : ℕ) → r < ranks
    → s ≡ gather (piece_at t) r ++ (piece_at t r ++ rest_of t r)
unfolding rest_of
file_split t s e r l =
    let all : ranks ≡ suc r + (ranks - suc r) = omega arith in
    e
    ∙ ap (λ (n : ℕ). gather (piece_at t) n ++ end_kind ∷ []) all
    ∙ rw (gather_more (piece_at t) (suc r) (ranks - suc r), gather_next (piece_at t) r) (simp append_assoc)

-- ---- reading on from a rank

module _ (t : Task) (formed : WellFormed t) (s : List ℕ) (whole : s ≡ gather (piece_at t) ranks ++ end_kind ∷ []) where
  -- Where the record of a rank stands in the file, if the task has it; and what is to be shown of that rank: from every state
  -- that holds the task's records below it, reading on accepts the task.
  abbrev place_at : ℕ → ℕ
  place_at r = length (gather (piece_at t) r)

  abbrev From : ℕ → Type 0
  From r = (seen : Seen) (slot : ℕ) → Standing seen slot → last_rank seen slot < r → Agrees t seen r
      → Reads s (accepted_read t) (place_at r) seen

  agrees_absent : (seen : Seen) (slot r : ℕ) → Standing seen slot → last_rank seen slot < r → Agrees t seen r → piece_at t r ≡ []
      → Agrees t seen (suc r)
  agrees_absent seen slot r stands later agrees none = record { sizes = agrees.sizes; pieces = λ q l. by q (eqb q r) refl l }
    where
      by : (q : ℕ) (b : Bool) → eqb q r ≡ b → q < suc r → piece_at seen.task q ≡ piece_at t q
      by q true e l = let is = eqb-true q r e in rw is (stands.above r later ∙ sym none)
      by q false e l = let other = eqb-false q r e in agrees.pieces q (omega arith)

  module _ (seen : Seen) (slot r : ℕ) (stands : Standing seen slot) (later : last_rank seen slot < r) (agrees : Agrees t seen r)
      (here : Here t seen r (kind_at s (place_at r)) (byte_at s (place_at r) 0) (byte_at s (place_at r) 1)) where
    agrees_after : Fitted seen.task (kind_at s (place_at r)) (byte_at s (place_at r) 0) (byte_at s (place_at r) 1)
        → Agrees t (seen_after s (place_at r) seen) (suc r)
    unfolding seen_after table_after task_after
    agrees_after tells =
        let other : eqb (kind_at s (place_at r)) sizes_kind ≡ false = ne_eqb (kind_at s (place_at r)) sizes_kind (apart sizes_kind (kind_at s (place_at r)) tells.later) in
        record {
          sizes = record {
            facts = rw other agrees.sizes.facts;
            actions = rw other agrees.sizes.actions;
            limit = rw other agrees.sizes.limit;
          };
          pieces = λ q l. pieces_after q (eqb q r) refl l;
        }
      where
        k : ℕ
        k = kind_at s (place_at r)

        x : ℕ
        x = byte_at s (place_at r) 0

        y : ℕ
        y = byte_at s (place_at r) 1

        pieces_after : (q : ℕ) (b : Bool) → eqb q r ≡ b → q < suc r
            → piece_at (task_after seen.task k x y (byte_at s (place_at r) 2)) q ≡ piece_at t q
        pieces_after q true e l =
            piece_after seen.task k x y (byte_at s (place_at r) 2) stands.formed tells q
            ∙ rw (here.place, e) (here.bytes ∙ ap (piece_at t) (sym (eqb-true q r e)))
        pieces_after q false e l =
            let far = eqb-false q r e in
            piece_after seen.task k x y (byte_at s (place_at r) 2) stands.formed tells q
            ∙ rw (here.place, e) (agrees.pieces q (omega arith))

    read_here : r < ranks → From (suc r) → Reads s (accepted_read t) (place_at r) seen
    unfolding seen_after
    read_here l more =
        let at = place_at r in
        let k = kind_at s at in
        let x = byte_at s at 0 in
        let y = byte_at s at 1 in
        let Long-as = ap length here.bytes in
        let bytes = record_length seen.task k x y here.fit in
        let parts = ap length (file_split t s whole r l) ∙ length-append (gather (piece_at t) r) (piece_at t r ++ rest_of t r) in
        let piece-part = length-append (piece_at t r) (rest_of t r) in
        let place = here.place in
        let clear = clear_later s at seen slot stands here.fit (omega arith) (omega arith) in
        let tells = fitted seen.task k x y stands.formed here.fit in
        let not_end : k ≡ end_kind → ⊥ = λ is. apart k end_kind tells.last (sym is) in
        let next = good_next s at seen slot stands clear not_end in
        let sum = ap length (gather_next (piece_at t) r) ∙ length-append (gather (piece_at t) r) (piece_at t r) in
        let next_place : place_at (suc r) ≡ next_at s at = omega arith in
        good {at = at} {seen = seen} (faultless s at seen clear) not_end
        (subst (λ (m : ℕ). Reads s (accepted_read t) m (seen_after s at seen)) next_place
        (more (seen_after s at seen) (slot_of seen.task k x y) next.stands (omega arith) (agrees_after tells)))

  step : (r : ℕ) → r < ranks → From (suc r) → From r
  step r l more seen slot stands later agrees = by (look t formed seen slot r stands later agrees)
    where
      by : Look t seen r → Reads s (accepted_read t) (place_at r) seen
      by (absent none) =
          let nothing-more : gather (piece_at t) (suc r) ≡ gather (piece_at t) r =
          gather_next (piece_at t) r ∙ rw none (append-nil (gather (piece_at t) r)) in
          let same : place_at (suc r) ≡ place_at r = ap length nothing-more in
          subst (λ (m : ℕ). Reads s (accepted_read t) m seen) same
          (more seen slot stands (omega arith) (agrees_absent seen slot r stands later agrees none))
      by (bare k is here) =
          let split : s ≡ gather (piece_at t) r ++ k ∷ rest_of t r = rw is at (file_split t s whole r l) in
          let kind = byte_of s (gather (piece_at t) r) (k ∷ rest_of t r) (place_at r) 0 split (omega arith) in
          read_here seen slot r stands later agrees (rw kind (here (byte_at s (place_at r) 0) (byte_at s (place_at r) 1))) l more
      by (short k x is here) =
          let split : s ≡ gather (piece_at t) r ++ k ∷ x ∷ rest_of t r = rw is at (file_split t s whole r l) in
          let kind = byte_of s (gather (piece_at t) r) (k ∷ x ∷ rest_of t r) (place_at r) 0 split (omega arith) in
          let first = byte_of s (gather (piece_at t) r) (k ∷ x ∷ rest_of t r) (place_at r + 1 + 0) 1 split (omega arith) in
          read_here seen slot r stands later agrees (rw (kind, first) (here (byte_at s (place_at r) 1))) l more
      by (long k x y is here) =
          let split : s ≡ gather (piece_at t) r ++ k ∷ x ∷ y ∷ rest_of t r = rw is at (file_split t s whole r l) in
          let kind = byte_of s (gather (piece_at t) r) (k ∷ x ∷ y ∷ rest_of t r) (place_at r) 0 split (omega arith) in
          let first = byte_of s (gather (piece_at t) r) (k ∷ x ∷ y ∷ rest_of t r) (place_at r + 1 + 0) 1 split (omega arith) in
          let second = byte_of s (gather (piece_at t) r) (k ∷ x ∷ y ∷ rest_of t r) (place_at r + 1 + 1) 2 split (omega arith) in
          read_here seen slot r stands later agrees (rw (kind, first, second) here) l more

  at_end : (r : ℕ) → r ≡ ranks → From r
  at_end r all seen slot stands later agrees =
      let same = same_task seen.task t stands.formed formed agrees.sizes (λ q l. agrees.pieces q (omega arith)) in
      let split : s ≡ gather (piece_at t) r ++ end_kind ∷ [] = rw all whole in
      let is = byte_of s (gather (piece_at t) r) (end_kind ∷ []) (place_at r) 0 split (omega arith) in
      let last = ap length split ∙ length-append (gather (piece_at t) r) (end_kind ∷ []) in
      ended {at = place_at r} {seen = seen} (faultless s (place_at r) seen (clear_end s (place_at r) seen slot stands is (omega arith))) is (omega arith)
      (ap accepted_read (sym same))

  from_rank : (n r : ℕ) → r + n ≡ ranks → From r
  from_rank zero r e = at_end r (omega arith)
  from_rank (suc n) r e = step r (omega arith) (from_rank n (suc r) (omega arith))

  -- ---- the first record

  sizes_at : s ≡ sizes_kind ∷ t.table.facts ∷ t.table.actions ∷ t.table.limit ∷ rest_of t (rank 0 sizes_kind 0)
  sizes_at = rw (none_before t, first_piece t) at (file_split t s whole (rank 0 sizes_kind 0) (omega (arith, order)))

  from_start : ReadsFile s (accepted_read t)
  unfolding body_length is_cell_kind
  from_start =
      let is : kind_at s 0 ≡ sizes_kind = ap (λ (b : List ℕ). get_or b 0 0) sizes_at in
      let x : byte_at s 0 0 ≡ t.table.facts = ap (λ (b : List ℕ). get_or b 1 0) sizes_at in
      let y : byte_at s 0 1 ≡ t.table.actions = ap (λ (b : List ℕ). get_or b 2 0) sizes_at in
      let z : byte_at s 0 2 ≡ t.table.limit = ap (λ (b : List ℕ). get_or b 3 0) sizes_at in
      let four : 4 ≤ length s = rw sizes_at (omega arith) in
      let first = bare_seen t.table.facts t.table.actions t.table.limit (body_at s 0) in
      let sees : seen_after s 0 nothing_seen ≡ first = rw (← x, ← y, ← z) (seen_first s is) in
      let clear = clear_first t formed s is x y z four in
      let next : place_at (suc (rank 0 sizes_kind 0)) ≡ next_at s 0 = rw is (ap length (sizes_first t)) in
      let rest = from_rank (ranks - suc (rank 0 sizes_kind 0)) (suc (rank 0 sizes_kind 0)) (omega (arith, order)) in
      good {at = 0} {seen = nothing_seen} (faultless s 0 nothing_seen clear) (λ e. omega arith)
      (subst₂ (Reads s (accepted_read t)) next (sym sees)
      (rest first 0 (subst (λ (seen : Seen). Standing seen 0) sees (stands_first s clear)) (omega (arith, bare_rank t.table.facts t.table.actions t.table.limit (body_at s 0))) (agrees_first t (body_at s 0))))

-- The file of a well-formed task is accepted, and that task is read: demand 2's first sentence, the other way.
pub file_accepted : (t : Task) → WellFormed t → ReadsFile (file_of t) (accepted_read t)
file_accepted t formed = from_start t formed (file_of t) (file_by_rank t formed)
