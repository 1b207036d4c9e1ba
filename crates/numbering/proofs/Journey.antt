-- The visits of a whole tree, by position: what a node's visit has, what its children's have from it, and what the walk leaves.
use mathlib.Core.Path.{◌≡◌, refl, sym, ap, ap₂, subst, ◌∙◌}
use mathlib.Core.List.{List, [], ◌∷◌, ◌++◌}
use Prim.Native.Nat.{ℕ, zero, suc, ◌+◌, ◌*◌, ◌≤◌, ◌<◌}
use native.Mathlib.Omega.{arith}
use lib.ListN.{length, get_or, take, drop}
use lib.Seq.{take_all}
use Rattle.lists.specs.Part.{part}
use Rattle.lists.proofs.Parts.{get_d_part}
use Rattle.chains.specs.Grammar.{Grammar, width}
use Rattle.chains.specs.Tree.{Bush, nil, grow, size, flat, Kinded, Root, Sub}
use Rattle.chains.proofs.WellKinded.{sub_kinded}
use Rattle.sheet.specs.Reading.{all_settings}
use Rattle.numbering.specs.Walk.{Tables, given, numbered, unused, slot_labels, root_entry, root_labels, started, group_numbers, walk, places}
use Rattle.numbering.specs.Promise.{entry_at}
use Rattle.numbering.specs.Visits.{Visit, nowhere, rank_of, entry_in, held_in, labels_in, handed, after, arrival, visits, journey, visit}
use Rattle.numbering.proofs.Labelled.{numbered_long, unused_bounds, slot_labels_long, kid_labels_long}
use Rattle.numbering.specs.Giving.{kinds_width}
use Rattle.numbering.proofs.Visits.{owns_of, Seen, visits_long, sub_seen, root_visit, Linked, visits_linked, walk_owns}

-- the settings of lists of nodes, one after another
pub settings_append : (G : Grammar) (l m : List ℕ) → all_settings G (l ++ m) ≡ all_settings G l + all_settings G m
unfolding all_settings
settings_append G [] m = omega arith
settings_append G (p ∷ l) m = omega (arith, settings_append G l m)

module _ (G : Grammar) (T : Tables) where
  -- ── the three places of each node ──
  unfoldable pub told_of : List Visit → List ℕ
  told_of [] = []
  told_of (v ∷ vs) = rank_of G T v.prod v.below ∷ v.feasible ∷ entry_in G T v ∷ told_of vs

  told_append : (vs ws : List Visit) → told_of (vs ++ ws) ≡ told_of vs ++ told_of ws
  unfolding told_of
  told_append [] ws = refl
  told_append (v ∷ vs) ws = ap (λ t. rank_of G T v.prod v.below ∷ v.feasible ∷ entry_in G T v ∷ t) (told_append vs ws)

  pub places_told : (f : Bush) (φ : ℕ → ℕ) (owns : List ℕ) (n : ℕ) → places G T f φ ≡ told_of (visits G T f φ owns n)
  unfolding places visits told_of
  places_told nil φ owns n = refl
  places_told (grow p cs rest) φ owns n =
      let v = arrival G T p cs φ owns n in
      let φ' = given T (entry_in G T v) in
      let next = (walk G T cs φ' (handed G T v) (after G T v)).next in
      let outer = drop (width G p 0) owns in
      let a = places_told cs φ' (handed G T v) (after G T v) in
      let b = places_told rest (λ j. φ (suc j)) outer next in
      ap (λ t. rank_of G T p cs ∷ φ 0 ∷ entry_in G T v ∷ t)
      (ap₂ ◌++◌ a b ∙ sym (told_append (visits G T cs φ' (handed G T v) (after G T v)) (visits G T rest (λ j. φ (suc j)) outer next)))

  told_entry : (vs : List Visit) (i : ℕ) → i < length vs → get_or (told_of vs) (3 * i + 2) 0 ≡ entry_in G T (get_or vs i nowhere)
  unfolding told_of
  told_entry [] i h = absurd (omega arith)
  told_entry (v ∷ vs) zero h = refl
  told_entry (v ∷ vs) (suc i) h =
      let e : 3 * suc i + 2 ≡ suc (suc (suc (3 * i + 2))) = omega arith in
      ap (λ m. get_or (told_of (v ∷ vs)) m 0) e ∙ told_entry vs i (omega arith)

  -- ── the numbers in use are no more than the settings ──
  pub walk_few : (f : Bush) (ks : List ℕ) (φ : ℕ → ℕ) (owns : List ℕ) (n : ℕ) → Kinded G f ks
      → (walk G T f φ owns n).next + kinds_width G ks ≤ n + all_settings G (flat f)
  unfolding walk kinds_width all_settings
  walk_few nil [] φ owns n k = omega arith
  walk_few nil (x ∷ ks) φ owns n k = absurd k
  walk_few (grow p cs rest) [] φ owns n k = absurd k
  walk_few (grow p cs rest) (x ∷ ks) φ owns n k =
      let v = arrival G T p cs φ owns n in
      let φ' = given T (entry_in G T v) in
      let next = (walk G T cs φ' (handed G T v) (after G T v)).next in
      let outer = drop (width G p 0) owns in
      let a = walk_few cs (G.kids p) φ' (handed G T v) (after G T v) k.1 in
      let b = walk_few rest ks (λ j. φ (suc j)) outer next k.2 in
      let u = (unused_bounds (held_in G T v) n (labels_in G T v)).1 in
      let e : G.settings (G.left p) ≡ G.settings x = ap (λ y. G.settings y) k.0.1 in
      omega (arith, kid_labels_long G T (entry_in G T v) 1 (G.kids p), settings_append G (flat cs) (flat rest))

  -- ── of a whole tree ──
  module _ (f : Bush) (kinded : Kinded G f (G.start ∷ [])) where
    pub journey_long : length (journey G T f) ≡ size f
    journey_long = visits_long G T f (started G T f) (numbered [] 0 (root_labels G T f)) (unused [] 0 (root_labels G T f))

    -- node i is visited at i
    pub visited : (i q : ℕ) (ds : Bush) → Sub f 0 i q ds → Seen G T (journey G T f) i (visit G T f i) × ((visit G T f i).prod ≡ q) × ((visit G T f i).below ≡ ds)
    visited i q ds s =
        let (t, v, e, seen, ep, ed) = sub_seen G T f (started G T f) (numbered [] 0 (root_labels G T f)) (unused [] 0 (root_labels G T f)) 0 i q ds s in
        let h : t ≡ i = omega arith in
        let at : get_or (journey G T f) i nowhere ≡ v = subst (λ m. get_or (journey G T f) m nowhere ≡ v) h seen.here in
        let seen' : Seen G T (journey G T f) i (visit G T f i) = rw at (subst (λ m. Seen G T (journey G T f) m v) h seen) in
        (seen', ap (λ (u : Visit). u.prod) at ∙ ep, ap (λ (u : Visit). u.below) at ∙ ed)

    -- child j of node i has from it its feasible rank and its own numbers
    pub child_visited : (i q : ℕ) (ds : Bush) (j m : ℕ) → Sub f 0 i q ds → Root ds (suc i) j m
        → ((visit G T f m).feasible ≡ given T (entry_in G T (visit G T f i)) j)
        × ((visit G T f m).own ≡ part (kinds_width G (take j (G.kids q))) (G.settings (get_or (G.kids q) j 0)) (handed G T (visit G T f i)))
    child_visited i q ds j m s r =
        let (seen, ep, ed) = visited i q ds s in
        let v = visit G T f i in
        let kd : Kinded G v.below (G.kids q) = rw ed (sub_kinded G f (G.start ∷ []) 0 i q ds kinded s).1 in
        let rt : Root v.below (suc i) j m = rw ed r in
        let (t, e, l, ef, eo) = root_visit G T v.below (G.kids q) (given T (entry_in G T v)) (handed G T v) (after G T v) (suc i) j m kd rt in
        let g : get_or (journey G T f) m nowhere ≡ get_or (visits G T v.below (given T (entry_in G T v)) (handed G T v) (after G T v)) t nowhere
        = ap (λ k. get_or (journey G T f) k nowhere) e ∙ sym (get_d_part (suc i) (size v.below) (journey G T f) t nowhere l) ∙ ap (λ (vs : List Visit). get_or vs t nowhere) seen.inner in
        (ap (λ (u : Visit). u.feasible) g ∙ ef, ap (λ (u : Visit). u.own) g ∙ eo)

    -- the root's are those that the tree starts with
    pub root_visited : ((visit G T f 0).feasible ≡ started G T f 0) × ((visit G T f 0).own ≡ numbered [] 0 (root_labels G T f))
        × ((visit G T f 0).next ≡ unused [] 0 (root_labels G T f))
        × (root_labels G T f ≡ slot_labels T (entry_in G T (visit G T f 0)) 0 0 (width G (visit G T f 0).prod 0))
    unfolding visits root_labels root_entry
    root_visited = first f kinded
      where
        first : (f : Bush) → Kinded G f (G.start ∷ [])
            → ((visit G T f 0).feasible ≡ started G T f 0) × ((visit G T f 0).own ≡ numbered [] 0 (root_labels G T f))
            × ((visit G T f 0).next ≡ unused [] 0 (root_labels G T f))
            × (root_labels G T f ≡ slot_labels T (entry_in G T (visit G T f 0)) 0 0 (width G (visit G T f 0).prod 0))
        first nil k = absurd k
        first (grow p cs rest) k =
            let ls = root_labels G T (grow p cs rest) in
            let e : length (numbered [] 0 ls) ≡ width G p 0 = numbered_long [] 0 ls ∙ slot_labels_long T (root_entry G T (grow p cs rest)) 0 0 (width G p 0) in
            (refl, take_all (width G p 0) (numbered [] 0 ls) (omega arith), refl, refl)

    pub journey_linked : Linked G T (unused [] 0 (root_labels G T f)) (journey G T f) (group_numbers G T f).next
    journey_linked = visits_linked G T f (started G T f) (numbered [] 0 (root_labels G T f)) (unused [] 0 (root_labels G T f))

    pub groups_owns : (group_numbers G T f).list ≡ owns_of (journey G T f)
    groups_owns = walk_owns G T f (started G T f) (numbered [] 0 (root_labels G T f)) (unused [] 0 (root_labels G T f))

    pub places_journey : places G T f (started G T f) ≡ told_of (journey G T f)
    places_journey = places_told f (started G T f) (numbered [] 0 (root_labels G T f)) (unused [] 0 (root_labels G T f))

    pub entry_visited : (i : ℕ) → i < size f → entry_at G T f i ≡ entry_in G T (visit G T f i)
    entry_visited i h = ap (λ l. get_or l (3 * i + 2) 0) places_journey ∙ told_entry (journey G T f) i (omega (arith, journey_long))

    pub groups_few : (group_numbers G T f).next ≤ all_settings G (flat f)
    unfolding root_labels kinds_width
    groups_few =
        let a = walk_few f (G.start ∷ []) (started G T f) (numbered [] 0 (root_labels G T f)) (unused [] 0 (root_labels G T f)) kinded in
        let b = (unused_bounds [] 0 (root_labels G T f)).1 in
        omega (arith, root_few f kinded)
      where
        root_few : (f : Bush) → Kinded G f (G.start ∷ []) → length (root_labels G T f) ≡ kinds_width G (G.start ∷ [])
        root_few nil k = absurd k
        root_few (grow p cs rest) k =
            let e : G.settings (G.left p) ≡ G.settings G.start = ap (λ y. G.settings y) k.0.1 in
            omega (arith, slot_labels_long T (root_entry G T (grow p cs rest)) 0 0 (width G p 0))
