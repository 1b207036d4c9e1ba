-- What the walk gives by recursion, by position: the visit of a node, and those below it.
use mathlib.Core.Path.{◌≡◌, refl, sym, ap, ap₂, subst, ◌∙◌}
use mathlib.Core.Logic.{inl, inr}
use mathlib.Core.List.{List, [], ◌∷◌, ◌++◌, append_assoc}
use Prim.Native.Nat.{ℕ, zero, suc, ◌+◌, ◌≤◌, ◌<◌}
use native.Mathlib.Omega.{arith}
use lib.ListN.{length, get_or, take, drop, length-append, length-drop, get_or-append}
use lib.Seq.{get_or-append-add, take_at, take-append-le, drop-append-le, drop-append-add, drop-drop}
use Rattle.lists.specs.Part.{part}
use Rattle.chains.specs.Grammar.{Grammar, width}
use Rattle.chains.specs.Tree.{Bush, nil, grow, size, Kinded, Root, Sub}
use Rattle.numbering.specs.Walk.{Tables, given, walk}
use Rattle.numbering.specs.Visits.{Visit, nowhere, entry_in, held_in, labels_in, handed, after, arrival, visits}
use Rattle.numbering.proofs.Labelled.{unused_bounds}
use Rattle.numbering.specs.Giving.{kinds_width}

-- a part of the first of two lists
part_front : {A : Type 0} (p q : List A) (a n : ℕ) → a + n ≤ length p → part a n (p ++ q) ≡ part a n p
part_front p q a n h =
    let k : n ≤ length (drop a p) = rw length-drop (omega arith) in
    rw (drop-append-le a p q (omega arith), take-append-le n (drop a p) q k)

-- the numbers of the visits' own settings, one visit after another
unfoldable pub owns_of : List Visit → List ℕ
owns_of [] = []
owns_of (v ∷ vs) = v.own ++ owns_of vs

pub owns_append : (vs ws : List Visit) → owns_of (vs ++ ws) ≡ owns_of vs ++ owns_of ws
unfolding owns_of
owns_append [] ws = refl
owns_append (v ∷ vs) ws = ap (λ t. v.own ++ t) (owns_append vs ws) ∙ sym (append_assoc v.own (owns_of vs) (owns_of ws))

module _ (G : Grammar) (T : Tables) where
  -- of the visits vs the one at t is v, and those below it follow
  pub record Seen (vs : List Visit) (t : ℕ) (v : Visit) : Type 0 where
    pub there : t + size v.below < length vs
    pub here : get_or vs t nowhere ≡ v
    pub inner : part (suc t) (size v.below) vs ≡ visits G T v.below (given T (entry_in G T v)) (handed G T v) (after G T v)

  pub visits_long : (f : Bush) (φ : ℕ → ℕ) (owns : List ℕ) (n : ℕ) → length (visits G T f φ owns n) ≡ size f
  unfolding visits
  visits_long nil φ owns n = refl
  visits_long (grow p cs rest) φ owns n =
      let v = arrival G T p cs φ owns n in
      let φ' = given T (entry_in G T v) in
      let a = visits_long cs φ' (handed G T v) (after G T v) in
      let b = visits_long rest (λ j. φ (suc j)) (drop (width G p 0) owns) (walk G T cs φ' (handed G T v) (after G T v)).next in
      ap suc (length-append (visits G T cs φ' (handed G T v) (after G T v)) _ ∙ ap₂ ◌+◌ a b)

  seen_front : {vs : List Visit} {t : ℕ} {v : Visit} (ws : List Visit) → Seen vs t v → Seen (vs ++ ws) t v
  seen_front {vs} {t} {v} ws s = record {
    there = omega (arith, s.there, length-append vs ws);
    here = get_or-append vs ws nowhere t (omega (arith, s.there)) ∙ s.here;
    inner = part_front vs ws (suc t) (size v.below) (omega (arith, s.there)) ∙ s.inner;
  }

  seen_back : {ws : List Visit} {t : ℕ} {v : Visit} (vs : List Visit) → Seen ws t v → Seen (vs ++ ws) (length vs + t) v
  seen_back {ws} {t} {v} vs s =
      let e : suc (length vs + t) ≡ length vs + suc t = omega arith in
      record {
        there = omega (arith, s.there, length-append vs ws);
        here = get_or-append-add vs ws t nowhere ∙ s.here;
        inner = ap (λ m. part m (size v.below) (vs ++ ws)) e ∙ ap (take (size v.below)) (drop-append-add vs ws (suc t)) ∙ s.inner;
      }

  -- every node is visited, at its place
  pub sub_seen : (f : Bush) (φ : ℕ → ℕ) (owns : List ℕ) (n k i q : ℕ) (ds : Bush) → Sub f k i q ds
      → (t : ℕ) × (v : Visit) × (i ≡ k + t) × Seen (visits G T f φ owns n) t v × (v.prod ≡ q) × (v.below ≡ ds)
  unfolding visits
  sub_seen nil φ owns n k i q ds s = absurd s
  sub_seen (grow p cs rest) φ owns n k i q ds (inl (ei, ep, ec)) =
      let v = arrival G T p cs φ owns n in
      let a = visits_long cs (given T (entry_in G T v)) (handed G T v) (after G T v) in
      let ws = visits G T rest (λ j. φ (suc j)) (drop (width G p 0) owns) (walk G T cs (given T (entry_in G T v)) (handed G T v) (after G T v)).next in
      let vs = visits G T cs (given T (entry_in G T v)) (handed G T v) (after G T v) in
      (0, v, omega arith, record { there = omega (arith, length-append vs ws); here = refl; inner = take_at vs ws (size cs) a }, ep, ec)
  sub_seen (grow p cs rest) φ owns n k i q ds (inr (inl s)) =
      let v = arrival G T p cs φ owns n in
      let vs = visits G T cs (given T (entry_in G T v)) (handed G T v) (after G T v) in
      let ws = visits G T rest (λ j. φ (suc j)) (drop (width G p 0) owns) (walk G T cs (given T (entry_in G T v)) (handed G T v) (after G T v)).next in
      let (t, w, e, seen, ep, ec) = sub_seen cs (given T (entry_in G T v)) (handed G T v) (after G T v) (suc k) i q ds s in
      let one : 1 + t ≡ suc t = omega arith in
      let inside : Seen (v ∷ vs) (suc t) w = subst (λ m. Seen (v ∷ vs) m w) one (seen_back (v ∷ []) seen) in
      (suc t, w, omega arith, seen_front ws inside, ep, ec)
  sub_seen (grow p cs rest) φ owns n k i q ds (inr (inr s)) =
      let v = arrival G T p cs φ owns n in
      let vs = visits G T cs (given T (entry_in G T v)) (handed G T v) (after G T v) in
      let (t, w, e, seen, ep, ec) = sub_seen rest (λ j. φ (suc j)) (drop (width G p 0) owns) (walk G T cs (given T (entry_in G T v)) (handed G T v) (after G T v)).next (suc (k + size cs)) i q ds s in
      let a = visits_long cs (given T (entry_in G T v)) (handed G T v) (after G T v) in
      (length (v ∷ vs) + t, w, omega arith, seen_back (v ∷ vs) seen, ep, ec)

  -- a forest's roots: the feasible rank and the own numbers of the j-th are the j-th of those given
  pub root_visit : (f : Bush) (ks : List ℕ) (φ : ℕ → ℕ) (owns : List ℕ) (n k j m : ℕ) → Kinded G f ks → Root f k j m
      → (t : ℕ) × (m ≡ k + t) × (t < size f) × ((get_or (visits G T f φ owns n) t nowhere).feasible ≡ φ j)
      × ((get_or (visits G T f φ owns n) t nowhere).own ≡ part (kinds_width G (take j ks)) (G.settings (get_or ks j 0)) owns)
  unfolding visits kinds_width
  root_visit nil ks φ owns n k j m h r = absurd r
  root_visit (grow p cs rest) [] φ owns n k j m h r = absurd h
  root_visit (grow p cs rest) (x ∷ ks) φ owns n k zero m h r = (0, omega arith, omega arith, refl, ap (λ y. take (G.settings y) owns) h.0.1)
  root_visit (grow p cs rest) (x ∷ ks) φ owns n k (suc j) m h r =
      let v = arrival G T p cs φ owns n in
      let vs = visits G T cs (given T (entry_in G T v)) (handed G T v) (after G T v) in
      let next = (walk G T cs (given T (entry_in G T v)) (handed G T v) (after G T v)).next in
      let ws = visits G T rest (λ j. φ (suc j)) (drop (width G p 0) owns) next in
      let (t, e, l, ef, eo) = root_visit rest ks (λ j. φ (suc j)) (drop (width G p 0) owns) next (suc (k + size cs)) j m h.2 r in
      let a = visits_long cs (given T (entry_in G T v)) (handed G T v) (after G T v) in
      let g : get_or (v ∷ (vs ++ ws)) (suc (length vs + t)) nowhere ≡ get_or ws t nowhere = get_or-append-add vs ws t nowhere in
      let w = get_or ks j 0 in
      let o : part (kinds_width G (take j ks)) (G.settings w) (drop (width G p 0) owns) ≡ part (G.settings x + kinds_width G (take j ks)) (G.settings w) owns
      = ap (take (G.settings w)) (drop-drop (kinds_width G (take j ks)) (width G p 0) owns ∙ ap (λ y. drop (G.settings y + kinds_width G (take j ks)) owns) h.0.1) in
      (suc (length vs + t), omega arith, omega arith, ap (λ (u : Visit). u.feasible) g ∙ ef, ap (λ (u : Visit). u.own) g ∙ eo ∙ o)

  -- ── the next unused number, from visit to visit ──
  abbrev pub Linked : ℕ → List Visit → ℕ → Type 0
  Linked n [] m = n ≡ m
  Linked n (v ∷ vs) m = (v.next ≡ n) × Linked (after G T v) vs m

  linked_append : (vs ws : List Visit) (n k m : ℕ) → Linked n vs k → Linked k ws m → Linked n (vs ++ ws) m
  linked_append [] ws n k m h g = rw h g
  linked_append (v ∷ vs) ws n k m h g = (h.0, linked_append vs ws (after G T v) k m h.1 g)

  pub visits_linked : (f : Bush) (φ : ℕ → ℕ) (owns : List ℕ) (n : ℕ) → Linked n (visits G T f φ owns n) (walk G T f φ owns n).next
  unfolding visits walk
  visits_linked nil φ owns n = refl
  visits_linked (grow p cs rest) φ owns n =
      let v = arrival G T p cs φ owns n in
      let φ' = given T (entry_in G T v) in
      let next = (walk G T cs φ' (handed G T v) (after G T v)).next in
      let outer = drop (width G p 0) owns in (
        refl,
        linked_append (visits G T cs φ' (handed G T v) (after G T v)) (visits G T rest (λ j. φ (suc j)) outer next) (after G T v) next
            (walk G T rest (λ j. φ (suc j)) outer next).next (visits_linked cs φ' (handed G T v) (after G T v)) (visits_linked rest (λ j. φ (suc j)) outer next),
      )

  pub linked_rises : (vs : List Visit) (n m : ℕ) → Linked n vs m → n ≤ m
  linked_rises [] n m h = omega arith
  linked_rises (v ∷ vs) n m h =
      let r = linked_rises vs (after G T v) m h.1 in
      omega (arith, h.0, (unused_bounds (held_in G T v) v.next (labels_in G T v)).0)

  -- ── what the walk leaves, visit by visit ──
  pub walk_owns : (f : Bush) (φ : ℕ → ℕ) (owns : List ℕ) (n : ℕ) → (walk G T f φ owns n).list ≡ owns_of (visits G T f φ owns n)
  unfolding visits walk owns_of
  walk_owns nil φ owns n = refl
  walk_owns (grow p cs rest) φ owns n =
      let v = arrival G T p cs φ owns n in
      let φ' = given T (entry_in G T v) in
      let next = (walk G T cs φ' (handed G T v) (after G T v)).next in
      let outer = drop (width G p 0) owns in
      let a = walk_owns cs φ' (handed G T v) (after G T v) in
      let b = walk_owns rest (λ j. φ (suc j)) outer next in
      let vs = visits G T cs φ' (handed G T v) (after G T v) in
      let ws = visits G T rest (λ j. φ (suc j)) outer next in
      append_assoc v.own (walk G T cs φ' (handed G T v) (after G T v)).list (walk G T rest (λ j. φ (suc j)) outer next).list
      ∙ ap (λ t. v.own ++ t) (ap₂ ◌++◌ a b ∙ sym (owns_append vs ws))
