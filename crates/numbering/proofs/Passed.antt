-- Options answered as results: what was there, or the error that stands for none.
use Rattle.std.proofs.Common.{◌≡◌, Option, Some, None, Ok, Err, refl}
use Rattle.std.specs.Option.{ok_or}

module _ {A E : Type 0} where
  pub ok_or_some : (o : Option A) (e : E) {a : A} → Ok a ≡ ok_or o e → o ≡ Some a
  ok_or_some None e h = cc
  ok_or_some (Some b) e h = cc

  pub ok_or_none : (o : Option A) (e : E) {z : E} → Err z ≡ ok_or o e → (o ≡ None) × (z ≡ e)
  ok_or_none None e h = (refl, cc)
  ok_or_none (Some b) e h = cc
