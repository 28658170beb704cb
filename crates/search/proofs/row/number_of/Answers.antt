-- `search::row::number_of` meets its contract: a code's kind and action are those of its number. Assumes nothing.
use mathlib.Core.Path.{◌∙◌}
use Rattle.search.proofs.RowLaws.{code_numbered}
use Rattle.search.proofs.row.number_of.Goals as goal

pub returns : goal.returns
returns c =
    c.number.ensures ∙ rw c.new.ensures (code_numbered c.args.f c.args.code c.requires.f_lt_max_facts c.requires.code_lt_per_fact)
