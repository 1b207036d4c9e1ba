-- Each condition of the table can be decided, so one that cannot fail holds.
use mathlib.Core.Path.{◌≡◌, refl}
use mathlib.Core.Logic.{◌⊎◌, inl, inr, ⊎_elim}
use mathlib.Core.Bool.{Bool, true, false}
use mathlib.Core.List.{List, [], ◌∷◌}
use Prim.Native.Nat.{ℕ, zero, suc, ◌+◌, ◌-◌, ◌*◌, ◌≤◌, ◌<◌}
use native.Mathlib.Decide.{dec_le, dec_lt, ℕ_discrete}
use native.Mathlib.Omega.{arith}
use lib.ListN.{length}
use Rattle.lists.specs.Refusals.{Sooner}
use Rattle.chains.specs.Grammar.{Occ, Tie, Grammar, slots, width, Exists, Target, order, Rises}
use Rattle.book.specs.Format.{trailer_bytes, kinds, prods, trailer, back_to_kinds, back_to_prods, next_at, Walks, Laid}

pub both : {A B : Type 0} → Dec A → Dec B → Dec (A × B)
both (yes a) (yes b) = yes (a, b)
both (yes a) (no b) = no (λ v. b v.1)
both (no a) d = no (λ v. a v.0)

pub either : {A B : Type 0} → Dec A → Dec B → Dec (A ⊎ B)
either (yes a) d = yes (inl a)
either (no a) (yes b) = yes (inr b)
either (no a) (no b) = no (⊎_elim a b)

pub held : {A : Type 0} → Dec A → ((A → ⊥) → ⊥) → A
held (yes a) h = a
held (no a) h = absurd (h a)

pub true_or_false : (x y : Bool) → Dec (x ≡ y)
true_or_false true true = yes refl
true_or_false true false = no (λ e. let z : ◌≡◌ {A = ℕ} 0 1 = cc in omega arith)
true_or_false false true = no (λ e. let z : ◌≡◌ {A = ℕ} 0 1 = cc in omega arith)
true_or_false false false = yes refl

walks_decided : (b : List ℕ) (n at e : ℕ) → Dec (Walks b n at e)
walks_decided b zero at e = ℕ_discrete at e
walks_decided b (suc n) at e = both (dec_le (next_at b at) (trailer b)) (walks_decided b n (next_at b at) e)

pub laid_decided : (b : List ℕ) → Dec (Laid b)
laid_decided b =
    parts
    (both (dec_le trailer_bytes (length b))
    (both (ℕ_discrete (back_to_kinds b) (trailer b))
    (both (ℕ_discrete (back_to_prods b + 2 * kinds b) (trailer b)) (walks_decided b (prods b) (trailer b - back_to_prods b) (trailer b)))))
  where
    parts : Dec
        ((trailer_bytes ≤ length b)
        × ((back_to_kinds b ≡ trailer b)
        × ((back_to_prods b + 2 * kinds b ≡ trailer b) × Walks b (prods b) (trailer b - back_to_prods b) (trailer b))))
        → Dec (Laid b)
    parts (yes (w, (f, (t, v)))) = yes (record { whole = w; from_front = f; then_prods = t; to_trailer = v })
    parts (no h) = no (λ l. h (l.whole, (l.from_front, (l.then_prods, l.to_trailer))))

pub exists_decided : (G : Grammar) (p : ℕ) (o : Occ) → Dec (Exists G p o)
exists_decided G p o = both (dec_lt o.0 (length (slots G p))) (dec_lt o.1 (width G p o.0))

pub target_decided : (G : Grammar) (p : ℕ) (o : Occ) → Dec (Target G p o)
target_decided G p o = either (both (ℕ_discrete o.0 0) (true_or_false _ false)) (both (dec_lt 0 o.0) (true_or_false _ true))

sooner_decided : (l m : List ℕ) → Dec (Sooner l m)
sooner_decided [] m = no (λ v. v)
sooner_decided (x ∷ l) [] = no (λ v. v)
sooner_decided (x ∷ l) (y ∷ m) = either (dec_lt x y) (both (ℕ_discrete x y) (sooner_decided l m))

pub rises_decided : (ts : List Tie) → Dec (Rises ts)
rises_decided [] = yes tt
rises_decided (t ∷ []) = yes tt
rises_decided (t ∷ u ∷ ts) = both (sooner_decided (order t) (order u)) (rises_decided (u ∷ ts))

-- one of the first n productions has the left kind k, or none has
pub head_decided : (G : Grammar) (k n : ℕ) → Dec ((p : ℕ) × (p < n) × (G.left p ≡ k))
head_decided G k zero = no (λ v. omega (arith, v.1))
head_decided G k (suc n) = go (ℕ_discrete (G.left n) k) (head_decided G k n)
  where
    go : Dec (G.left n ≡ k) → Dec ((p : ℕ) × (p < n) × (G.left p ≡ k)) → Dec ((p : ℕ) × (p < suc n) × (G.left p ≡ k))
    go (yes e) d = yes (n, omega arith, e)
    go (no e) (yes (p, l, h)) = yes (p, omega arith, h)
    go (no e) (no d) = no (λ v. elim (ℕ_discrete v.0 n) [ yes s ↦ e (rw s at v.2) | no s ↦ d (v.0, omega (arith, v.1), v.2) ])
