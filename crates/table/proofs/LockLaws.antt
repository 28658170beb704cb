-- Locks (02, request 6): no list of permitted repairs drops a locked need, and each locked need stands in the table with such a list applied.
-- Assumes nothing.
use mathlib.Core.Bool.{Bool, true, false, not, ◌&&◌, and-false, false≢true}
use mathlib.Core.List.{List}
use mathlib.Core.Path.{◌≡◌, refl, sym, ◌∙◌}
use Prim.Native.Nat.{ℕ, ◌<◌}
use native.Mathlib.Omega.{arith}
use lib.Dec.{ltb}
use borrow.Author.Tests.{ltb-true}
use Rattle.table.proofs.FlagLaws.{and_right}
use Rattle.table.proofs.RepairNumbers.{permitted_number}
use Rattle.table.specs.Order.{is_in}
use Rattle.table.specs.Repairs.{drop_need, number_of, permits, permitted, chosen, repaired}
use Rattle.table.specs.Sizes.{max_actions}
use Rattle.table.specs.Strips.{Cells}

module _ (c : Cells) (l : List ℕ) (each : (n : ℕ) → is_in l n ≡ true → permitted c n ≡ true) (a f : ℕ) (locked : c.locks a f ≡ true) where
  -- "no list may drop them"
  pub locked_out : a < max_actions → is_in l (number_of f drop_need a) ≡ false
  unfolding permits
  locked_out low = pick (is_in l (number_of f drop_need a)) refl
    where
      pick : (b : Bool) → is_in l (number_of f drop_need a) ≡ b → b ≡ false
      pick true e =
          let said : permits c f drop_need a ≡ true = sym (permitted_number c f drop_need a (omega arith) low) ∙ each (number_of f drop_need a) e in
          let free : (c.needs a f && not (c.locks a f)) ≡ true = and_right (ltb f c.facts && ltb a c.actions) _ said in
          let shut : (c.needs a f && not (c.locks a f)) ≡ false = rw locked (and-false (c.needs a f)) in
          absurd (false≢true (sym shut ∙ free))
      pick false e = refl

  unchosen : chosen (is_in l) f drop_need a ≡ false
  unfolding chosen
  unchosen = pick (ltb a max_actions) refl
    where
      pick : (b : Bool) → ltb a max_actions ≡ b → (b && is_in l (number_of f drop_need a)) ≡ false
      pick true e = locked_out (ltb-true a max_actions e)
      pick false e = refl

  pub locked_stands : c.needs a f ≡ true → (repaired c (is_in l)).needs a f ≡ true
  locked_stands need = rw (need, unchosen)
