-- What a contract promises of every call, a call keeps. Assumes nothing.
use mathlib.Core.Path.{subst}
use Rattle.table.specs.Asks.{Call}

-- Where the contract says M of what it is given and of what it leaves, each call that was given i and gave o has M i o.
pub call_keeps : {K A R B I O : Type 0} {Post : K → A → R → B → Type 0} {gets : A → I} {gives : R → B → O} (M : I → O → Type 0)
    → ((k : K) (a : A) (r : R) (b : B) → Post k a r b → M (gets a) (gives r b)) → (i : I) (o : O) → Call Post gets gives i o → M i o
call_keeps {gets = gets} M says i o c =
    subst (λ (x : _). M x o) c.got (subst (λ (y : _). M (gets c.given) y) c.gave (says c.kept c.given c.result c.left c.allowed))
