-- Reading the list off the rows: what the rows of the first facts come to, and what is answered then.
use Rattle.std.specs.Prelude.{Bool, cond, ◌||◌, List, ℕ, ◌+◌, eqb, leb, ltb, length}
use Rattle.search.specs.Rows.{row_over, row_hopeless}
use Rattle.table.specs.Counting.{some_below}
use Rattle.table.specs.Join.{is_hopeless, is_over, join_lists}
use Rattle.table.specs.Outcomes.{refusal}
use Rattle.table.specs.Sizes.{max_row}
use Rattle.table.specs.Refusals.{accepted, no_list_works, over_the_limit, room_too_short}
use Rattle.table.specs.declared.Reply.{Reply}
use Rattle.rows.specs.Tables.{verdict_at}
use Rattle.solve.specs.declared.report.Sum.{Sum}

-- What rows come to, with one row more, by its first number: 8 is hopeless, 7 over, and any other number is the list's length.
abbrev pub with_first : Sum → ℕ → Sum
with_first sum first = record {
  hopeless = sum.hopeless || eqb first row_hopeless;
  over = sum.over || eqb first row_over;
  total = sum.total + cond (leb first max_row) first 0;
}

-- Of the rows below n: does one say 8, does one say 7, and the sum of the lengths.
unfoldable pub sum_of : List ℕ → ℕ → Sum
sum_of s n = record {
  hopeless = some_below (λ f. is_hopeless (verdict_at s f)) n;
  over = some_below (λ f. is_over (verdict_at s f)) n;
  total = length (join_lists (verdict_at s) n);
}

-- "refusal 9 if a row says 8; else 10 if a row says 7 or the lengths sum to more than L; else the joined list" (document 01, "The session
-- table"), and 11 where the room has fewer places than that.
unfoldable pub reply_for : Bool → Bool → ℕ → ℕ → ℕ → Reply
reply_for hopeless over total limit places =
    cond {A = Reply} hopeless (refusal no_list_works)
    (cond {A = Reply} (over || ltb limit total) (refusal over_the_limit)
    (cond {A = Reply} (ltb places total) (refusal room_too_short) (record { number = accepted; place = 0; length = total })))
