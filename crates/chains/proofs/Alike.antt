-- What a code relates, against what it says: the same, also of settings that there are not, which are alike to themselves only.
use mathlib.Core.Path.{◌≡◌, ap, Σ_path}
use mathlib.Core.Logic.Iff
use mathlib.Core.Logic.{◌⊎◌, inl, inr, ◌↔◌}
use mathlib.Core.List.{List, [], ◌∷◌}
use Prim.Native.Nat.{ℕ, zero, suc, ◌<◌}
use native.Mathlib.Omega.{arith}
use lib.ListN.{length, get_or}
use Rattle.chains.specs.Grammar.{Occ, Grammar, Lawful, Exists}
use Rattle.chains.specs.Chain.{Slotwise, Join, Closure}
use Rattle.chains.specs.Grouping.{Says, Alike, Each}
use Rattle.chains.proofs.Closure.{real_ends}
use Rattle.chains.proofs.Says.{says_map}

-- R relates a setting of A to another one only if both are below A
abbrev pub Kept : ℕ → (ℕ → ℕ → Type 0) → Type 0
Kept A R = (a b : ℕ) → R a b → (a ≡ b) ⊎ ((a < A) × (b < A))

-- a code that says a relation says any other that holds at the same places
pub says_iff : (A c : ℕ) (R S : ℕ → ℕ → Type 0) → ((a b : ℕ) → R a b ↔ S a b) → Says A c R → Says A c S
says_iff A c R S h s = says_map s (λ a b la lb. h a b)

pub says_same : (A A' c : ℕ) (R S : ℕ → ℕ → Type 0) → A ≡ A' → ((a b : ℕ) → R a b ↔ S a b) → Says A c R ↔ Says A' c S
says_same A A' c R S e h = rw e (says_iff A' c R S h, says_iff A' c S R (λ a b. Iff.symm (h a b)))

pub alike_iff : (G : Grammar) (k c : ℕ) (R : ℕ → ℕ → Type 0) → Says (G.settings k) c R → ((a : ℕ) → R a a) → Kept (G.settings k) R
    → (a b : ℕ) → Alike G k c a b ↔ R a b
alike_iff G k c R s here kept a b = (to, from)
  where
    to : Alike G k c a b → R a b
    to (inl e) = rw e (here b)
    to (inr (la, lb, e)) = (s.same a b la lb).0 e

    from : R a b → Alike G k c a b
    from r = elim (kept a b r) [ inl e ↦ inl e | inr h ↦ inr (h.0, h.1, (s.same a b h.0 h.1).1 r) ]

pub alike_kept : (G : Grammar) (k c : ℕ) → Kept (G.settings k) (Alike G k c)
alike_kept G k c a b (inl e) = inl e
alike_kept G k c a b (inr (la, lb, e)) = inr (la, lb)

pub each_kept : (G : Grammar) (ks cs : List ℕ) (j a b : ℕ) → Each G ks cs j a b
    → (a ≡ b) ⊎ ((j < length ks) × (a < G.settings (get_or ks j 0)) × (b < G.settings (get_or ks j 0)))
each_kept G [] cs j a b e = absurd e
each_kept G (k ∷ ks) [] j a b e = absurd e
each_kept G (k ∷ ks) (c ∷ cs) zero a b e = elim (alike_kept G k c a b e) [ inl h ↦ inl h | inr h ↦ inr (omega arith, h.0, h.1) ]
each_kept G (k ∷ ks) (c ∷ cs) (suc j) a b e = elim (each_kept G ks cs j a b e) [ inl h ↦ inl h | inr h ↦ inr (omega (arith, h.0), h.1, h.2) ]

-- a closure relates an occurrence to another one only if both exist, where each slot's relation does so
pub closure_real : (G : Grammar) → Lawful G → (p : ℕ) → p < G.prods → (τ : ℕ → ℕ → ℕ → Type 0)
    → ((s a b : ℕ) → τ s a b → (a ≡ b) ⊎ (Exists G p (s, a) × Exists G p (s, b))) → (o o' : Occ) → Closure G p τ o o' → (o ≡ o') ⊎ (Exists G p o × Exists G p o')
closure_real G L p there τ real o o' c = real_ends (Exists G p) join_real c
  where
    join_real : (o o' : Occ) → Join G p τ o o' → (o ≡ o') ⊎ (Exists G p o × Exists G p o')
    join_real o o' (inl t) = let (e, e', u) = L.named p o o' there t in inr (e, e')
    join_real o o' (inr (e, t)) = elim (real o.0 o.1 o'.1 t) [ inl h ↦ inl (Σ_path e h) | inr h ↦ inr (h.0, rw (← e) h.1) ]

-- so does a closure over codes
module _ (G : Grammar) (L : Lawful G) (p : ℕ) (there : p < G.prods) (ρ : ℕ → ℕ → Type 0) (kept : Kept (G.settings (G.left p)) ρ) (cs : List ℕ) where
  slots_kept : (s a b : ℕ) → Slotwise ρ (Each G (G.kids p) cs) s a b → (a ≡ b) ⊎ (Exists G p (s, a) × Exists G p (s, b))
  slots_kept zero a b t = elim (kept a b t) [ inl e ↦ inl e | inr h ↦ inr ((omega arith, h.0), (omega arith, h.1)) ]
  slots_kept (suc j) a b t =
      elim (each_kept G (G.kids p) cs j a b t) [ inl e ↦ inl e | inr h ↦ inr ((omega (arith, h.0), h.1), (omega (arith, h.0), h.2)) ]

  pub closure_kept : (s : ℕ) → Kept (G.settings (get_or (G.left p ∷ G.kids p) s 0)) (λ a b. Closure G p (Slotwise ρ (Each G (G.kids p) cs)) (s, a) (s, b))
  closure_kept s a b c =
      elim (closure_real G L p there (Slotwise ρ (Each G (G.kids p) cs)) slots_kept (s, a) (s, b) c) [ inl e ↦ inl (ap (λ (o : Occ). o.1) e) | inr h ↦ inr (h.0.1, h.1.1) ]
