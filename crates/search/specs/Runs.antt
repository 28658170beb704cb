-- What a search is lent, in the words of the meaning.
use Rattle.table.specs.Strips.{Course, Courses}
use Rattle.search.specs.declared.Run.{Run}
use Rattle.search.specs.declared.Lent.{Lent}
use Rattle.search.specs.Columns.{course_in, courses_in}

abbrev pub run_of : Run → Course
run_of r = course_in r.col.now r.count r.steps.now r.number

abbrev pub runs_of : Lent → Courses
runs_of v = courses_in v.col.now v.counts.now v.steps.now
