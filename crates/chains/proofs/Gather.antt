-- The walk over a production's slots: a slot's code may be tied, and the slot then dropped, before the others' codes are chosen.
use mathlib.Core.Path.{◌≡◌, refl, sym, subst}
use mathlib.Core.Logic.{◌⊎◌, inl, inr, ◌↔◌}
use Prim.Native.Nat.{ℕ, ◌<◌}
use borrow.Author.Tests.{eq-eqb, ne_eqb}
use lib.Dec.{eqb}
use Rattle.lists.specs.Pick.{pick}
use Rattle.chains.specs.Grammar.{Occ, Grammar, width}
use Rattle.chains.specs.Chain.{Eqv, done, fwd}
use Rattle.chains.specs.Grouping.{label, Says}
use Rattle.chains.specs.Gather.{InSlot, TiedTo, AllTied, Result, Remaining}
use Rattle.chains.proofs.Closure.{bind, more, glue}
use Rattle.chains.proofs.Says.{says_map, says_unique}

-- ---- dropping
module _ {X : Type 0} (S T : X → X → Type 0) (Keep : X → Type 0) (within : (x y : X) → T x y → Keep x × Keep y) where
  -- THEOREM: what no tie of T touches may be dropped before T is tied: what is kept is chained as before
  pub drop : (x y : X) → Keep x → Keep y → Eqv (λ x y. S x y ⊎ T x y) x y ↔ Eqv (λ x y. Remaining Keep S x y ⊎ T x y) x y
  drop x y hx hy = (
    λ c. more aside (glue (λ x y. S x y ⊎ T x y) T S Keep (λ x. Unit {0}) Keep split within (λ x y s. (tt, tt)) (λ x h u. h) hx hy c),
    bind whole,
  )
    where
      split : (x y : X) → S x y ⊎ T x y → T x y ⊎ S x y
      split x y (inl s) = inr s
      split x y (inr t) = inl t

      aside : (x y : X) → T x y ⊎ Remaining Keep S x y → Remaining Keep S x y ⊎ T x y
      aside x y (inl t) = inr t
      aside x y (inr k) = inl k

      whole : (x y : X) → Remaining Keep S x y ⊎ T x y → Eqv (λ x y. S x y ⊎ T x y) x y
      whole x y (inl k) = more (λ x y s. inl s) k.2
      whole x y (inr t) = fwd done (inr t)

-- ---- results
module _ (G : Grammar) (p t : ℕ) where
  -- relations with the same chains, slots and codes that are the same: the results are the same
  module _ (Codes Codes' : ℕ → ℕ → Type 0) (Open Open' : ℕ → Type 0) (ρ ρ' : Occ → Occ → Type 0) (x : ℕ) where
    pub result_map : ((s : ℕ) → Open s → Open' s) → ((s : ℕ) → Open' s → Open s) → ((s c : ℕ) → Open s → Codes s c → Codes' s c)
        → ((o q : Occ) → ρ o q → Eqv ρ' o q) → ((o q : Occ) → ρ' o q → Eqv ρ o q) → Result G p t Codes Open ρ x → Result G p t Codes' Open' ρ' x
    result_map to fro codes there back r = record {
      choice = r.choice;
      from = λ s h. codes s (r.choice s) (fro s h) (r.from s (fro s h));
      says = says_map r.says (λ a b ha hb. (bind forth, bind aback));
    }
      where
        forth : (o q : Occ) → AllTied G p Open r.choice ρ o q → Eqv (AllTied G p Open' r.choice ρ') o q
        forth o q (inl e) = more (λ o q e. inl e) (there o q e)
        forth o q (inr (s, h, i)) = fwd done (inr (s, to s h, i))

        aback : (o q : Occ) → AllTied G p Open' r.choice ρ' o q → Eqv (AllTied G p Open r.choice ρ) o q
        aback o q (inl e) = more (λ o q e. inl e) (back o q e)
        aback o q (inr (s, h, i)) = fwd done (inr (s, fro s h, i))

  -- only the open slots differ in how they are named
  pub result_open : (Codes : ℕ → ℕ → Type 0) (Open Open' : ℕ → Type 0) (ρ : Occ → Occ → Type 0) (x : ℕ) → ((s : ℕ) → Open s ↔ Open' s)
      → Result G p t Codes Open ρ x ↔ Result G p t Codes Open' ρ x
  result_open Codes Open Open' ρ x h = (
    result_map Codes Codes Open Open' ρ ρ x (λ s. (h s).0) (λ s. (h s).1) (λ s c u m. m) (λ o q e. fwd done e) (λ o q e. fwd done e),
    result_map Codes Codes Open' Open ρ ρ x (λ s. (h s).1) (λ s. (h s).0) (λ s c u m. m) (λ o q e. fwd done e) (λ o q e. fwd done e),
  )

  -- THEOREM: where no slot is open, the result is what ρ itself relates on slot t
  pub result_none : (Codes : ℕ → ℕ → Type 0) (Open : ℕ → Type 0) (ρ : Occ → Occ → Type 0) (x : ℕ) → ((s : ℕ) → Open s → ⊥)
      → Result G p t Codes Open ρ x ↔ Says (width G p t) x (λ a b. Eqv ρ (t, a) (t, b))
  result_none Codes Open ρ x shut = (
    λ r. says_map r.says (λ a b ha hb. (bind (none r.choice), more (λ o q e. inl e))),
    λ s. record { choice = λ s. 0; from = λ s h. absurd (shut s h); says = says_map s (λ a b ha hb. (more (λ o q e. inl e), bind (none (λ s. 0)))) },
  )
    where
      none : (f : ℕ → ℕ) (o q : Occ) → AllTied G p Open f ρ o q → Eqv ρ o q
      none f o q (inl e) = fwd done e
      none f o q (inr (s, h, i)) = absurd (shut s h)

  -- ---- one slot more: s₀ is open besides
  module _ (Codes : ℕ → ℕ → Type 0) (Open : ℕ → Type 0) (ρ : Occ → Occ → Type 0) (s₀ : ℕ) (shut : Open s₀ → ⊥) (Keep : Occ → Type 0)
      (target : (a : ℕ) → Keep (t, a)) (later : (s a : ℕ) → Open s → Keep (s, a)) (x : ℕ) where
    abbrev Wide : ℕ → Type 0
    Wide s = (s ≡ s₀) ⊎ Open s

    -- what the open slots tie
    abbrev Others : (ℕ → ℕ) → Occ → Occ → Type 0
    Others f o q = (s : ℕ) × Open s × InSlot G p s (f s) o q

    module _ (f : ℕ → ℕ) (c : ℕ) (e : f s₀ ≡ c) where
      first : (o q : Occ) → AllTied G p Wide f ρ o q → TiedTo G p s₀ c ρ o q ⊎ Others f o q
      first o q (inl r) = inl (inl r)
      first o q (inr (s, inl u, i)) = inl (inr (rw (u, e) at i))
      first o q (inr (s, inr h, i)) = inr (s, h, i)

      last : (o q : Occ) → TiedTo G p s₀ c ρ o q ⊎ Others f o q → AllTied G p Wide f ρ o q
      last o q (inl (inl r)) = inl r
      last o q (inl (inr i)) = inr (s₀, inl refl, rw e i)
      last o q (inr (s, h, i)) = inr (s, inr h, i)

      others_kept : (o q : Occ) → Others f o q → Keep o × Keep q
      others_kept o q (s, h, (u, v, i)) = (subst (λ s. Keep (s, o.1)) (sym u) (later s o.1 h), subst (λ s. Keep (s, q.1)) (sym v) (later s q.1 h))

      tied_first : (a b : ℕ) → Eqv (AllTied G p Wide f ρ) (t, a) (t, b) ↔ Eqv (AllTied G p Open f (Remaining Keep (TiedTo G p s₀ c ρ))) (t, a) (t, b)
      tied_first a b =
          let d = drop (TiedTo G p s₀ c ρ) (Others f) Keep others_kept (t, a) (t, b) (target a) (target b) in
          (λ k. d.0 (more first k), λ k. more last (d.1 k))

    -- the choice f, but c for s₀
    but : (ℕ → ℕ) → ℕ → ℕ → ℕ
    but f c s = pick (eqb s s₀) c (f s)

    but_here : (f : ℕ → ℕ) (c : ℕ) → but f c s₀ ≡ c
    unfolding but
    but_here f c = rw (eq-eqb s₀ s₀ refl)

    but_there : (f : ℕ → ℕ) (c s : ℕ) → Open s → but f c s ≡ f s
    unfolding but
    but_there f c s h = rw (ne_eqb s s₀ (λ e. shut (rw e at h)))

    rechosen : (f g : ℕ → ℕ) → ((s : ℕ) → Open s → f s ≡ g s) → (κ : Occ → Occ → Type 0) (o q : Occ) → AllTied G p Open f κ o q → AllTied G p Open g κ o q
    rechosen f g h κ o q (inl k) = inl k
    rechosen f g h κ o q (inr (s, u, i)) = inr (s, u, rw (h s u) at i)

    -- THEOREM: the results over one slot more are those, over the others, of ρ tied with one of that slot's codes and seen on what is kept
    pub result_more : Result G p t Codes (λ s. (s ≡ s₀) ⊎ Open s) ρ x ↔ ((c : ℕ) × Codes s₀ c × Result G p t Codes Open (Remaining Keep (TiedTo G p s₀ c ρ)) x)
    result_more = (apart, together)
      where
        apart : Result G p t Codes (λ s. (s ≡ s₀) ⊎ Open s) ρ x → (c : ℕ) × Codes s₀ c × Result G p t Codes Open (Remaining Keep (TiedTo G p s₀ c ρ)) x
        apart r = (
          r.choice s₀,
          r.from s₀ (inl refl),
          record { choice = r.choice; from = λ s h. r.from s (inr h); says = says_map r.says (λ a b ha hb. tied_first r.choice (r.choice s₀) refl a b) },
        )

        together : (c : ℕ) × Codes s₀ c × Result G p t Codes Open (Remaining Keep (TiedTo G p s₀ c ρ)) x → Result G p t Codes (λ s. (s ≡ s₀) ⊎ Open s) ρ x
        together (c, m, r) = record {
          choice = but r.choice c;
          from = λ s h. elim h [ inl e ↦ rw (e, but_here r.choice c) m | inr u ↦ rw (but_there r.choice c s u) (r.from s u) ];
          says = says_map r.says (λ a b ha hb.
              let k = tied_first (but r.choice c) c (but_here r.choice c) a b in (
                λ d. k.1 (more (rechosen r.choice (but r.choice c) (λ s u. sym (but_there r.choice c s u)) (Remaining Keep (TiedTo G p s₀ c ρ))) d),
                λ d. more (rechosen (but r.choice c) r.choice (λ s u. but_there r.choice c s u) (Remaining Keep (TiedTo G p s₀ c ρ))) (k.0 d),
              ));
        }

-- ---- bounds: tying more never parts. Nothing cites these laws yet: by them request 6 (seven children) passes over what can add nothing
module _ (G : Grammar) (p t : ℕ) (Codes : ℕ → ℕ → Type 0) (Open : ℕ → Type 0) (ρ : Occ → Occ → Type 0) (x : ℕ) where
  -- ρ with every code of every open slot tied
  abbrev pub Most : Occ → Occ → Type 0
  Most o q = ρ o q ⊎ ((s : ℕ) × (c : ℕ) × Open s × Codes s c × InSlot G p s c o q)

  most : (r : Result G p t Codes Open ρ x) (o q : Occ) → AllTied G p Open r.choice ρ o q → Most o q
  most r o q (inl e) = inl e
  most r o q (inr (s, h, i)) = inr (s, r.choice s, h, r.from s h, i)

  -- THEOREM: what ρ relates on slot t every result does, and what a result relates there is related where every code is tied
  pub result_least : Result G p t Codes Open ρ x → (a b : ℕ) → a < width G p t → b < width G p t → Eqv ρ (t, a) (t, b) → label x a ≡ label x b
  result_least r a b ha hb c = (r.says.same a b ha hb).1 (more (λ o q e. inl e) c)

  pub result_most : Result G p t Codes Open ρ x → (a b : ℕ) → a < width G p t → b < width G p t → label x a ≡ label x b → Eqv Most (t, a) (t, b)
  result_most r a b ha hb e = more (most r) ((r.says.same a b ha hb).0 e)

  -- THEOREM: where tying every code adds nothing on slot t, what ρ relates there is the only result
  pub result_pinched : (y : ℕ) → Says (width G p t) y (λ a b. Eqv ρ (t, a) (t, b)) → Says (width G p t) y (λ a b. Eqv Most (t, a) (t, b))
      → Result G p t Codes Open ρ x → x ≡ y
  result_pinched y lo hi r = says_unique (says_map r.says (λ a b ha hb. (λ c. (hi.same a b ha hb).1 (more (most r) c), λ e. more (λ o q e. inl e) ((lo.same a b ha hb).0 e)))) equal
    where
      equal : Says (width G p t) y (λ a b. label y a ≡ label y b)
      equal = says_map lo (λ a b ha hb. ((lo.same a b ha hb).1, (lo.same a b ha hb).0))
