-- `search::view::having` gathers the places whose set has the fact: those before i are in.
use lib.ListN.{get_or}
use Rattle.search.specs.Views.{GathersBelow}
use Rattle.search.proofs.view.having.Given as goal

abbrev pub invariant-loop-i : goal.invariant-loop-i
invariant-loop-i g l = GathersBelow (λ b. get_or l.sets b 0) l.f l.i l.m
