-- The walk over a tree, by anyone's tables, gives the numbers of the group slice by the rule: labels that agree, in walk order.
use mathlib.Core.Path.{◌≡◌, refl, sym, ap, ap₂, ◌∙◌, subst, subst₂}
use mathlib.Core.Logic.{inl, inr}
use mathlib.Core.List.{List, [], ◌∷◌, ◌++◌, map, map-map, map-append, append_assoc, append-nil}
use Prim.Native.Nat.{ℕ, zero, suc, ◌+◌, ◌*◌, ◌≤◌, ◌<◌}
use native.Mathlib.Omega.{arith}
use lib.ListN.{length, get_or, take, drop, length-append, length-map, length-drop, take-append-drop}
use lib.Seq.{length-take-le, get_or-append_seam}
use Rattle.lists.specs.Pick.{pick}
use Rattle.lists.proofs.Carries.{Carries, carries_first, carries_rest, carries_front, carries_back, carries_at, carries_snoc}
use Rattle.chains.specs.Grammar.{Occ, Grammar, width}
use Rattle.chains.specs.Tree.{Bush, nil, grow, size, flat, Kinded, Inst, Sub}
use Rattle.chains.specs.Numbering.{in_slot, occurrences, setting, Numbers}
use Rattle.chains.specs.Numbering as rule
use Rattle.chains.proofs.Nodes.{sub_one, flat_length}
use Rattle.sheet.specs.Reading.{all_settings}
use Rattle.sheet.proofs.Reading.{settings_next}
use Rattle.numbering.specs.Walk.{holder, holds, Tables, Held, entry_of, given, places, numbered, unused, kid_labels, held, own_held, Numbered, walk, root_entry, root_labels, started, group_numbers}
use Rattle.numbering.specs.Places.{down_entry_of, number_of}
use Rattle.numbering.proofs.Rule.{Keeps, numbered_rule, held_map, keeps_map}
use Rattle.numbering.proofs.Told.{parts}
use Rattle.numbering.proofs.Listed.{root_settings, in_slot_long, kid_settings, own_settings, label_of, own_labels, all_labels}

pub numbered_long : (hs : List Held) (n : ℕ) (xs : List ℕ) → length (numbered hs n xs) ≡ length xs
unfolding numbered
numbered_long hs n [] = refl
numbered_long hs n (x ∷ xs) = ap suc (numbered_long (hs ++ (x, holder x hs n) ∷ []) (pick (holds x hs) n (suc n)) xs)

settings_append : (G : Grammar) (l m : List ℕ) → all_settings G (l ++ m) ≡ all_settings G l + all_settings G m
unfolding all_settings
settings_append G [] m = omega arith
settings_append G (p ∷ l) m = let e = settings_append G l m in omega arith

module _ (G : Grammar) (T : Tables) where
  -- ── the walk, node by node ──
  -- the numbers of a node's children: those held by its own settings, its children's labels, and what follows
  abbrev entry : ℕ → Bush → (ℕ → ℕ) → ℕ
  entry p cs φ = entry_of G T p (φ 0) cs

  abbrev holding : ℕ → Bush → (ℕ → ℕ) → List ℕ → List Held
  holding p cs φ owns = own_held G T p (entry p cs φ) (take (width G p 0) owns)

  abbrev asked : ℕ → Bush → (ℕ → ℕ) → List ℕ
  asked p cs φ = kid_labels G T (entry p cs φ) 1 (G.kids p)

  abbrev inner : ℕ → Bush → (ℕ → ℕ) → List ℕ → ℕ → Numbered
  inner p cs φ owns n = walk G T cs (given T (entry p cs φ)) (numbered (holding p cs φ owns) n (asked p cs φ)) (unused (holding p cs φ owns) n (asked p cs φ))

  -- the next unused number as the walk comes to each node of a forest
  unfoldable pub nexts : Bush → (ℕ → ℕ) → List ℕ → ℕ → List ℕ
  nexts nil φ owns n = []
  nexts (grow p cs rest) φ owns n =
      n ∷ (nexts cs (given T (entry p cs φ)) (numbered (holding p cs φ owns) n (asked p cs φ)) (unused (holding p cs φ owns) n (asked p cs φ))
      ++ nexts rest (λ j. φ (suc j)) (drop (width G p 0) owns) (inner p cs φ owns n).next)

  nexts_long : (f : Bush) (φ : ℕ → ℕ) (owns : List ℕ) (n : ℕ) → length (nexts f φ owns n) ≡ size f
  unfolding nexts
  nexts_long nil φ owns n = refl
  nexts_long (grow p cs rest) φ owns n =
      let a = nexts_long cs (given T (entry p cs φ)) (numbered (holding p cs φ owns) n (asked p cs φ)) (unused (holding p cs φ owns) n (asked p cs φ)) in
      let b = nexts_long rest (λ j. φ (suc j)) (drop (width G p 0) owns) (inner p cs φ owns n).next in
      ap suc (simp length-append (omega arith))

  -- with the one after the forest behind them
  abbrev pub turns : Bush → (ℕ → ℕ) → List ℕ → ℕ → List ℕ
  turns f φ owns n = nexts f φ owns n ++ (walk G T f φ owns n).next ∷ []

  turns_first : (l : List ℕ) (at : ℕ) (f : Bush) (φ : ℕ → ℕ) (owns : List ℕ) (n : ℕ) → Carries l at (turns f φ owns n) → get_or l at 0 ≡ n
  unfolding nexts walk
  turns_first l at nil φ owns n h = carries_first l at n [] h
  turns_first l at (grow p cs rest) φ owns n h = let e : at + 0 ≡ at = omega arith in rw e at (h 0 (omega arith))

  -- ── the lengths ──
  kids_long : (p n e : ℕ) (cs : Bush) → Kinded G cs (G.kids p) → length (kid_labels G T e 1 (G.kids p)) ≡ length (root_settings G cs (suc n))
  kids_long p n e cs k =
      ap length (all_labels G T e 1 (G.kids p)) ∙ length-map (occurrences G 1 (G.kids p)) (label_of G T e)
      ∙ sym (length-map (occurrences G 1 (G.kids p)) (setting n cs)) ∙ ap length (kid_settings G n p cs k)

  walk_long : (f : Bush) (ks : List ℕ) (n : ℕ) (φ : ℕ → ℕ) (owns : List ℕ) (k : ℕ) → Kinded G f ks → length owns ≡ length (root_settings G f n)
      → length (walk G T f φ owns k).list ≡ all_settings G (flat f)
  unfolding walk all_settings root_settings
  walk_long nil ks n φ owns k h e = refl
  walk_long (grow p cs rest) [] n φ owns k h e = absurd h
  walk_long (grow p cs rest) (x ∷ ks) n φ owns k h e =
      let w = width G p 0 in
      let long : length owns ≡ w + length (root_settings G rest (suc (n + size cs)))
      = e ∙ length-append (in_slot n 0 w) (root_settings G rest (suc (n + size cs))) ∙ ap (λ t. t + length (root_settings G rest (suc (n + size cs)))) (in_slot_long n 0 w) in
      let hs = holding p cs φ owns in
      let xs = asked p cs φ in
      let a = walk_long cs (G.kids p) (suc n) (given T (entry p cs φ)) (numbered hs k xs) (unused hs k xs) h.1 (numbered_long hs k xs ∙ kids_long p n (entry p cs φ) cs h.1) in
      let b = walk_long rest ks (suc (n + size cs)) (λ j. φ (suc j)) (drop w owns) (inner p cs φ owns k).next h.2 (length-drop w owns ∙ omega arith) in
      let c = length-take-le w owns (omega arith) in
      simp length-append (omega (arith, settings_append G (flat cs) (flat rest)))

  -- ── the slices that a call leaves: of the nodes and of the groups; and the next unused number at each node ──
  module _ (l nodes groups next : List ℕ) where
    -- the settings of the nodes before n
    abbrev before : ℕ → ℕ
    before n = all_settings G (take n l)

    abbrev num : Inst → ℕ
    num x = number_of G l groups x

    before_next : (n p : ℕ) → n < length l → get_or l n 0 ≡ p → before (suc n) ≡ before n + width G p 0
    before_next n p h e = settings_next G l n h ∙ ap (λ t. before n + G.settings (G.left t)) e

    before_forest : (f : Bush) (n : ℕ) → Carries l n (flat f) → n + size f ≤ length l → before (n + size f) ≡ before n + all_settings G (flat f)
    unfolding all_settings
    before_forest nil n h b = let e : n + 0 ≡ n = omega arith in rw e (omega arith)
    before_forest (grow p cs rest) n h b =
        let h₁ = carries_rest l n p (flat cs ++ flat rest) h in
        let a₁ : suc n + length (flat cs) ≡ suc (n + size cs) = omega (arith, flat_length cs) in
        let h₂ = carries_at l (suc n + length (flat cs)) (suc (n + size cs)) (flat rest) a₁ (carries_back l (suc n) (flat cs) (flat rest) h₁) in
        let own = before_next n p (omega arith) (carries_first l n p (flat cs ++ flat rest) h) in
        let kids = before_forest cs (suc n) (carries_front l (suc n) (flat cs) (flat rest) h₁) (omega arith) in
        let others = before_forest rest (suc (n + size cs)) h₂ (omega arith) in
        let e₁ : suc n + size cs ≡ suc (n + size cs) = omega arith in
        let e₂ : suc (n + size cs) + size rest ≡ n + suc (size cs + size rest) = omega arith in
        let kids' = rw e₁ at kids in
        rw e₂ at others ∙ omega (arith, settings_append G (flat cs) (flat rest))

    -- the forest f at n, walked with the feasible ranks φ and the numbers owns of its roots, k being the next unused number
    pub record Walked (f : Bush) (n : ℕ) (φ : ℕ → ℕ) (owns : List ℕ) (k : ℕ) : Type 0 where
      pub told : Carries nodes (3 * n) (places G T f φ)
      pub sheet : Carries l n (flat f)
      pub fits : n + size f ≤ length l
      pub long : length owns ≡ length (root_settings G f n)
      pub given : Carries groups (before n) (walk G T f φ owns k).list
      pub turn : Carries next n (turns f φ owns k)

    module _ (p : ℕ) (cs rest : Bush) (n : ℕ) (φ : ℕ → ℕ) (owns : List ℕ) (k : ℕ) (below : Kinded G cs (G.kids p)) (h : Walked (grow p cs rest) n φ owns k) where
      abbrev here : ℕ
      here = entry p cs φ

      abbrev hs : List Held
      hs = holding p cs φ owns

      abbrev xs : List ℕ
      xs = asked p cs φ

      abbrev w : ℕ
      w = width G p 0

      abbrev own : List ℕ
      own = take w owns

      owns_long : length owns ≡ w + length (root_settings G rest (suc (n + size cs)))
      unfolding root_settings
      owns_long = h.long ∙ length-append (in_slot n 0 w) (root_settings G rest (suc (n + size cs))) ∙ ap (λ t. t + length (root_settings G rest (suc (n + size cs)))) (in_slot_long n 0 w)

      own_long : length own ≡ w
      own_long = length-take-le w owns (omega (arith, owns_long))

      numbers_long : length (numbered hs k xs) ≡ length (root_settings G cs (suc n))
      numbers_long = numbered_long hs k xs ∙ kids_long p n here cs below

      inner_long : length (inner p cs φ owns k).list ≡ all_settings G (flat cs)
      inner_long = walk_long cs (G.kids p) (suc n) (given T here) (numbered hs k xs) (unused hs k xs) below numbers_long

      -- the sheet: its own production, its children, the others
      its_own : get_or l n 0 ≡ p
      its_own = carries_first l n p (flat cs ++ flat rest) h.sheet

      its_children : Carries l (suc n) (flat cs)
      its_children = carries_front l (suc n) (flat cs) (flat rest) (carries_rest l n p (flat cs ++ flat rest) h.sheet)

      its_others : Carries l (suc (n + size cs)) (flat rest)
      its_others =
          let e : suc n + length (flat cs) ≡ suc (n + size cs) = omega (arith, flat_length cs) in
          carries_at l (suc n + length (flat cs)) (suc (n + size cs)) (flat rest) e (carries_back l (suc n) (flat cs) (flat rest) (carries_rest l n p (flat cs ++ flat rest) h.sheet))

      before_children : before (suc n) ≡ before n + w
      before_children = before_next n p (omega (arith, h.fits)) its_own

      before_others : before (suc (n + size cs)) ≡ before n + w + all_settings G (flat cs)
      before_others =
          let e : suc n + size cs ≡ suc (n + size cs) = omega arith in
          let a = rw e at (before_forest cs (suc n) its_children (omega (arith, h.fits))) in
          omega (arith, before_children)

      -- the groups: its own numbers, its children's and theirs, the others'
      given_own : Carries groups (before n) own
      unfolding walk
      given_own =
          let inside = (inner p cs φ owns k).list in
          let outside = (walk G T rest (λ j. φ (suc j)) (drop w owns) (inner p cs φ owns k).next).list in
          carries_front groups (before n) own inside (carries_front groups (before n) (own ++ inside) outside h.given)

      given_children : Carries groups (before (suc n)) (inner p cs φ owns k).list
      unfolding walk
      given_children =
          let inside = (inner p cs φ owns k).list in
          let outside = (walk G T rest (λ j. φ (suc j)) (drop w owns) (inner p cs φ owns k).next).list in
          let e : before n + length own ≡ before (suc n) = omega (arith, own_long, before_children) in
          carries_at groups (before n + length own) (before (suc n)) inside e (carries_back groups (before n) own inside (carries_front groups (before n) (own ++ inside) outside h.given))

      given_others : Carries groups (before (suc (n + size cs))) (walk G T rest (λ j. φ (suc j)) (drop w owns) (inner p cs φ owns k).next).list
      unfolding walk
      given_others =
          let inside = (inner p cs φ owns k).list in
          let outside = (walk G T rest (λ j. φ (suc j)) (drop w owns) (inner p cs φ owns k).next).list in
          let e : before n + length (own ++ inside) ≡ before (suc (n + size cs)) = omega (arith, length-append own inside, own_long, inner_long, before_others) in
          carries_at groups (before n + length (own ++ inside)) (before (suc (n + size cs))) outside e (carries_back groups (before n) (own ++ inside) outside h.given)

      -- the next unused numbers
      abbrev turns_inside : List ℕ
      turns_inside = nexts cs (given T here) (numbered hs k xs) (unused hs k xs)

      abbrev turns_outside : List ℕ
      turns_outside = turns rest (λ j. φ (suc j)) (drop w owns) (inner p cs φ owns k).next

      turn_behind : Carries next (suc n) (turns_inside ++ turns_outside)
      unfolding nexts walk
      turn_behind =
          let outside = nexts rest (λ j. φ (suc j)) (drop w owns) (inner p cs φ owns k).next in
          let last = (walk G T rest (λ j. φ (suc j)) (drop w owns) (inner p cs φ owns k).next).next in
          subst (Carries next (suc n)) (append_assoc turns_inside outside (last ∷ [])) (carries_rest next n k ((turns_inside ++ outside) ++ last ∷ []) h.turn)

      turn_others : Carries next (suc (n + size cs)) turns_outside
      turn_others =
          let e : suc n + length turns_inside ≡ suc (n + size cs) = omega (arith, nexts_long cs (given T here) (numbered hs k xs) (unused hs k xs)) in
          carries_at next (suc n + length turns_inside) (suc (n + size cs)) turns_outside e (carries_back next (suc n) turns_inside turns_outside turn_behind)

      turn_children : Carries next (suc n) (turns cs (given T here) (numbered hs k xs) (unused hs k xs))
      turn_children =
          let e : suc n + length turns_inside ≡ suc (n + size cs) = omega (arith, nexts_long cs (given T here) (numbered hs k xs) (unused hs k xs)) in
          let last = turns_first next (suc (n + size cs)) rest (λ j. φ (suc j)) (drop w owns) (inner p cs φ owns k).next turn_others in
          carries_snoc next (suc n) turns_inside (inner p cs φ owns k).next (carries_front next (suc n) turns_inside turns_outside turn_behind) (rw e last)

      -- so its children are walked, and the others
      pub walked_children : Walked cs (suc n) (given T here) (numbered hs k xs) (unused hs k xs)
      walked_children = record {
        told = (parts G T nodes p cs rest n φ h.told).children;
        sheet = its_children;
        fits = omega (arith, h.fits);
        long = numbers_long;
        given = given_children;
        turn = turn_children;
      }

      pub walked_others : Walked rest (suc (n + size cs)) (λ j. φ (suc j)) (drop w owns) (inner p cs φ owns k).next
      walked_others = record {
        told = (parts G T nodes p cs rest n φ h.told).others;
        sheet = its_others;
        fits = omega (arith, h.fits);
        long = length-drop w owns ∙ omega (arith, owns_long);
        given = given_others;
        turn = turn_others;
      }

      -- its own settings have the numbers it was given
      pub own_numbers : own ≡ map num (in_slot n 0 w)
      own_numbers = listed own n 0 w own_long (λ j b. let e : 0 + j ≡ j = omega arith in rw e (given_own j (omega (arith, own_long))))
        where
          listed : (ys : List ℕ) (n a A : ℕ) → length ys ≡ A → ((j : ℕ) → j < A → num (n, a + j) ≡ get_or ys j 0) → ys ≡ map num (in_slot n a A)
          listed [] n a zero e at_place = refl
          listed [] n a (suc A) e at_place = absurd (omega arith)
          listed (y ∷ ys) n a zero e at_place = absurd (omega arith)
          listed (y ∷ ys) n a (suc A) e at_place =
              let z : a + 0 ≡ a = omega arith in
              ap₂ ◌∷◌ (sym (rw z at (at_place 0 (omega arith))))
              (listed ys n (suc a) A (omega arith) (λ j b. let z : a + suc j ≡ suc a + j = omega arith in rw z at (at_place (suc j) (omega arith))))

      -- those held are its own settings' labels and numbers
      own_keeps : Keeps (label_of G T here) (λ o. num (setting n cs o)) (occurrences G 0 (G.left p ∷ [])) hs
      own_keeps =
          let occs = in_slot 0 0 w in
          let e : hs ≡ map (λ o. (label_of G T here o, num (setting n cs o))) occs
          = ap₂ held (own_labels G T here 0 0 w) (own_numbers ∙ sym (ap (map num) (own_settings n cs w)) ∙ map-map num (setting n cs) occs)
          ∙ held_map (label_of G T here) (λ o. num (setting n cs o)) occs in
          rw (append-nil occs, e) (keeps_map (label_of G T here) (λ o. num (setting n cs o)) occs)

    -- which occurrences of node i's production are alike: those to which its entry gives one label
    abbrev pub Like : ℕ → Occ → Occ → Type 0
    Like i o o' = label_of G T (down_entry_of nodes i) o ≡ label_of G T (down_entry_of nodes i) o'

    -- the roots' settings have the numbers that were given for them
    pub owns_are : (f : Bush) (ks : List ℕ) (n : ℕ) (φ : ℕ → ℕ) (owns : List ℕ) (k : ℕ) → Kinded G f ks → Walked f n φ owns k → owns ≡ map num (root_settings G f n)
    unfolding root_settings
    owns_are nil ks n φ [] k kin h = refl
    owns_are nil ks n φ (x ∷ owns) k kin h = absurd (omega (arith, h.long))
    owns_are (grow p cs rest) [] n φ owns k kin h = absurd kin
    owns_are (grow p cs rest) (x ∷ ks) n φ owns k kin h =
        let w = width G p 0 in
        let later = owns_are rest ks (suc (n + size cs)) (λ j. φ (suc j)) (drop w owns) (inner p cs φ owns k).next kin.2 (walked_others p cs rest n φ owns k kin.1 h) in
        sym (take-append-drop w owns) ∙ ap₂ ◌++◌ (own_numbers p cs rest n φ owns k kin.1 h) later
        ∙ sym (map-append num (in_slot n 0 w) (root_settings G rest (suc (n + size cs))))

    -- a node's children are numbered by the rule
    node_numbers : (p : ℕ) (cs rest : Bush) (n : ℕ) (φ : ℕ → ℕ) (owns : List ℕ) (k : ℕ) → Kinded G cs (G.kids p) → Walked (grow p cs rest) n φ owns k
        → Numbers (Like n) (λ o. num (setting n cs o)) (occurrences G 0 (G.left p ∷ [])) (get_or next n 0) (occurrences G 1 (G.kids p)) (get_or next (suc n) 0)
    node_numbers p cs rest n φ owns k below h =
        let e = entry p cs φ in
        let hs = holding p cs φ owns in
        let xs = asked p cs φ in
        let os = occurrences G 1 (G.kids p) in
        let inside = walked_children p cs rest n φ owns k below h in
        let given_them : map (λ o. num (setting n cs o)) os ≡ numbered hs k (map (label_of G T e) os)
        = sym (map-map num (setting n cs) os) ∙ ap (map num) (kid_settings G n p cs below)
        ∙ sym (owns_are cs (G.kids p) (suc n) (given T e) (numbered hs k xs) (unused hs k xs) below inside) ∙ ap (numbered hs k) (all_labels G T e 1 (G.kids p)) in
        let by_rule = numbered_rule (label_of G T e) (λ o. num (setting n cs o)) os (occurrences G 0 (G.left p ∷ [])) hs k (own_keeps p cs rest n φ owns k below h) given_them in
        let first : get_or next n 0 ≡ k = turns_first next n (grow p cs rest) φ owns k h.turn in
        let second : get_or next (suc n) 0 ≡ unused hs k (map (label_of G T e) os)
        = turns_first next (suc n) cs (given T e) (numbered hs k xs) (unused hs k xs) inside.turn ∙ ap (unused hs k) (all_labels G T e 1 (G.kids p)) in
        rw (first, second) (subst (λ t. Numbers (λ o o'. label_of G T t o ≡ label_of G T t o') (λ o. num (setting n cs o)) (occurrences G 0 (G.left p ∷ [])) k os (unused hs k (map (label_of G T e) os)))
        (sym (parts G T nodes p cs rest n φ h.told).entry) by_rule)

    -- and so at every node of the forest
    pub nodes_numbered : (f : Bush) (ks : List ℕ) (n : ℕ) (φ : ℕ → ℕ) (owns : List ℕ) (k : ℕ) → Kinded G f ks → Walked f n φ owns k → (i q : ℕ) (ds : Bush) → Sub f n i q ds
        → Numbers (Like i) (λ o. num (setting i ds o)) (occurrences G 0 (G.left q ∷ [])) (get_or next i 0) (occurrences G 1 (G.kids q)) (get_or next (suc i) 0)
    nodes_numbered nil ks n φ owns k kin h i q ds s = absurd s
    nodes_numbered (grow p cs rest) [] n φ owns k kin h i q ds s = absurd kin
    nodes_numbered (grow p cs rest) (x ∷ ks) n φ owns k kin h i q ds (inl (ei, ep, ec)) = rw (ei, ← ep, ← ec) (node_numbers p cs rest n φ owns k kin.1 h)
    nodes_numbered (grow p cs rest) (x ∷ ks) n φ owns k kin h i q ds (inr (inl s)) =
        let e = entry p cs φ in
        let hs = holding p cs φ owns in
        nodes_numbered cs (G.kids p) (suc n) (given T e) (numbered hs k (asked p cs φ)) (unused hs k (asked p cs φ)) kin.1 (walked_children p cs rest n φ owns k kin.1 h) i q ds s
    nodes_numbered (grow p cs rest) (x ∷ ks) n φ owns k kin h i q ds (inr (inr s)) =
        nodes_numbered rest ks (suc (n + size cs)) (λ j. φ (suc j)) (drop (width G p 0) owns) (inner p cs φ owns k).next kin.2 (walked_others p cs rest n φ owns k kin.1 h) i q ds s

-- ── the whole tree ──
module _ (G : Grammar) (T : Tables) (f : Bush) where
  -- the numbers of the root's settings, and the next unused number after them
  abbrev first_numbers : List ℕ
  first_numbers = numbered [] 0 (root_labels G T f)

  abbrev first_next : ℕ
  first_next = unused [] 0 (root_labels G T f)

  -- the next unused number as the walk comes to each node, and after the last
  unfoldable pub next_at : ℕ → ℕ
  next_at i = get_or (turns G T f (started G T f) first_numbers first_next) i 0

  pub next_last : next_at (size f) ≡ (group_numbers G T f).next
  unfolding next_at
  next_last =
      let long = nexts_long G T f (started G T f) first_numbers first_next in
      let e = get_or-append_seam (nexts G T f (started G T f) first_numbers first_next) (group_numbers G T f).next [] 0 in
      rw long at e

module _ (G : Grammar) (T : Tables) (k p : ℕ) (cs : Bush) (kinded : Kinded G (grow p cs nil) (k ∷ [])) (nodes groups : List ℕ) where
  abbrev tree : Bush
  tree = grow p cs nil

  abbrev sheet : List ℕ
  sheet = flat tree

  abbrev asked_first : List ℕ
  asked_first = root_labels G T tree

  abbrev next : List ℕ
  next = turns G T tree (started G T tree) (first_numbers G T tree) (first_next G T tree)

  first_long : length (first_numbers G T tree) ≡ length (root_settings G tree 0)
  unfolding root_labels root_settings
  first_long =
      numbered_long [] 0 asked_first ∙ ap length (own_labels G T (root_entry G T tree) 0 0 (width G p 0)) ∙ length-map (in_slot 0 0 (width G p 0)) (label_of G T (root_entry G T tree))
      ∙ sym (ap length (append-nil (in_slot 0 0 (width G p 0))))

  module _ (told : Carries nodes 0 (places G T tree (started G T tree))) (numbers : Carries groups 0 (group_numbers G T tree).list) where
    walked : Walked G T sheet nodes groups next tree 0 (started G T tree) (first_numbers G T tree) (first_next G T tree)
    unfolding all_settings
    walked = record {
      told = told;
      sheet = λ j h. let e : 0 + j ≡ j = omega arith in rw e refl;
      fits = omega (arith, flat_length tree);
      long = first_long;
      given = numbers;
      turn = λ j h. let e : 0 + j ≡ j = omega arith in rw e refl;
    }

    abbrev number : Inst → ℕ
    number x = number_of G sheet groups x

    -- the root's settings come first
    root_numbers : Numbers (Like G T sheet nodes groups next 0) (λ o. number (setting 0 cs o)) [] 0 (occurrences G 0 (G.left p ∷ [])) (next_at G T tree 0)
    unfolding next_at root_labels root_settings root_entry
    root_numbers =
        let w = width G p 0 in
        let e = root_entry G T tree in
        let os = in_slot 0 0 w in
        let labels : asked_first ≡ map (label_of G T e) os = own_labels G T e 0 0 w in
        let given_them : map (λ o. number (setting 0 cs o)) os ≡ numbered [] 0 (map (label_of G T e) os)
        = sym (map-map number (setting 0 cs) os) ∙ ap (map number) (own_settings 0 cs w ∙ sym (append-nil os))
        ∙ sym (owns_are G T sheet nodes groups next tree (k ∷ []) 0 (started G T tree) (first_numbers G T tree) (first_next G T tree) kinded walked) ∙ ap (numbered [] 0) labels in
        let none_kept : Keeps (label_of G T e) (λ o. number (setting 0 cs o)) [] [] = keeps_map (label_of G T e) (λ o. number (setting 0 cs o)) [] in
        let by_rule = numbered_rule (label_of G T e) (λ o. number (setting 0 cs o)) os [] [] 0 none_kept given_them in
        let first : get_or next 0 0 ≡ unused [] 0 (map (label_of G T e) os)
        = turns_first G T next 0 tree (started G T tree) (first_numbers G T tree) (first_next G T tree) walked.turn ∙ ap (unused [] 0) labels in
        rw (append-nil os, first)
        (subst (λ t. Numbers (λ o o'. label_of G T t o ≡ label_of G T t o') (λ o. number (setting 0 cs o)) [] 0 os (unused [] 0 (map (label_of G T e) os)))
        (sym (parts G T nodes p cs nil 0 (started G T tree) told).entry) by_rule)

    one_tree_numbered : rule.Numbered G tree (Like G T sheet nodes groups next) number (next_at G T tree)
    unfolding next_at
    one_tree_numbered = record {
      top = λ q ds s.
          let (eq, ed) = sub_one tree 0 0 p q cs ds (inl (refl, refl, refl)) s in
          subst₂ (λ q ds. Numbers (Like G T sheet nodes groups next 0) (λ o. number (setting 0 ds o)) [] 0 (occurrences G 0 (G.left q ∷ [])) (next_at G T tree 0)) eq ed root_numbers;
      below = λ i q ds s.
          nodes_numbered G T sheet nodes groups next tree (k ∷ []) 0 (started G T tree) (first_numbers G T tree) (first_next G T tree) kinded walked i q ds s;
    }

-- THEOREM: a call that leaves in its slices what the walk by the tables T gives has numbered the settings of its tree in walk order, occurrences being alike
-- where the down entry of their node gives them one label; its number of groups is the next unused number after the last node
pub walk_numbered : (G : Grammar) (T : Tables) (k : ℕ) (f : Bush) → Kinded G f (k ∷ []) → (l nodes groups : List ℕ) → flat f ≡ l
    → Carries nodes 0 (places G T f (started G T f)) → Carries groups 0 (group_numbers G T f).list
    → rule.Numbered G f (λ i o o'. label_of G T (down_entry_of nodes i) o ≡ label_of G T (down_entry_of nodes i) o') (number_of G l groups) (next_at G T f)
walk_numbered G T k nil kinded l nodes groups e told numbers = absurd kinded
walk_numbered G T k (grow p cs (grow q ds rest)) kinded l nodes groups e told numbers = absurd kinded.2
walk_numbered G T k (grow p cs nil) kinded l nodes groups e told numbers = rw (← e) (one_tree_numbered G T k p cs kinded nodes groups told numbers)
