-- A call and the contract above its function, as plain claims. Rattle makes of each contract two: `Pre`, what the function asks of its
-- caller, and `Post`, what it then promises, over what was kept, what was given, the result and what was given at the call's end.
use Rattle.std.specs.Prelude.{◌≡◌}

-- A call that was given i and gave o, as far as its contract tells: `gets` reads i off what it was given, `gives` reads o off what it
-- left.
pub record Call {K A R B I O : Type 0} (Post : K → A → R → B → Type 0) (gets : A → I) (gives : R → B → O) (i : I) (o : O) : Type 0 where
  pub kept : K
  pub given : A
  pub result : R
  pub left : B
  pub allowed : Post kept given result left
  pub got : gets given ≡ i
  pub gave : gives result left ≡ o

-- "Every call .. is defined on every input": the function asks nothing of its caller.
abbrev pub AsksNothing : {K A : Type 0} → (K → A → Type 0) → Type 0
AsksNothing {K} {A} Pre = (k : K) (a : A) → Pre k a
