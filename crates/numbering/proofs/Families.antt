-- The loop that numbers the settings of a node's children, one child after another.
use mathlib.Core.Path.{◌≡◌, refl, sym, ap, ap₂, subst, ◌∙◌}
use mathlib.Core.List.{List, [], ◌∷◌, ◌++◌, append_assoc, append-nil}
use Prim.Native.Nat.{ℕ, suc, ◌+◌, ◌*◌, ◌≤◌, ◌<◌}
use native.Mathlib.Nat.{add-zero}
use native.Mathlib.Decide.{dec_lt, ℕ_discrete}
use native.Mathlib.Numerals.{add-one}
use native.Mathlib.Omega.{arith}
use borrow.Rule.Slice.PartMut.{put_mid, same_len_mid}
use lib.ListN.{length, get_or, take, drop, take-append-drop}
use lib.Seq.{take_all, take-suc, take_at, drop_at, drop-cons, length-take-le}
use Rattle.std.proofs.lemmas.List.{drop-drop}
use Rattle.std.proofs.lemmas.Slice.{drop-put_mid}
use Rattle.lists.specs.Part.{part, place}
use Rattle.lists.proofs.Parts.{length_part, place_this, place_before, place_after}
use Rattle.chains.specs.Limits.{max_settings, max_nodes}
use Rattle.chains.specs.Grammar.{Grammar}
use Rattle.sheet.specs.Reading.{all_settings}
use Rattle.numbering.specs.Walk.{Tables, Held, held, numbered, unused, slot_labels, kid_labels}
use Rattle.numbering.specs.Nodes.{subtree_ends}
use Rattle.numbering.specs.Parts.{grammar_in, tables_in, child_at}
use Rattle.numbering.specs.Giving.{Holding, Slot, kinds_width, Written, Puts, Ready}
use Rattle.numbering.specs.declared.call.Call.{Call}
use Rattle.numbering.specs.declared.nodes.Node.{Node}
use Rattle.numbering.specs.declared.numbers.Holder.{Holder}
use Rattle.numbering.proofs.Keeping.{unread, first_at, end_at}
use Rattle.numbering.proofs.Calls.{few_kids, known_in}
use Rattle.numbering.proofs.Children.{child_low, child_first, child_next}
use Rattle.numbering.proofs.Labelled.{numbered_long, holding, numbered_append, unused_append, slot_labels_long, kid_labels_long}
use Rattle.numbering.proofs.Slots.{holding_append}
use Rattle.numbering.proofs.Trees.{settings_before, settings_inside}

-- ── labels of some children, then of others ──
kid_labels_append : (G : Grammar) (T : Tables) (e s : ℕ) (ks js : List ℕ) → kid_labels G T e s (ks ++ js) ≡ kid_labels G T e s ks ++ kid_labels G T e (s + length ks) js
unfolding kid_labels
kid_labels_append G T e s [] js = rw (add-zero s)
kid_labels_append G T e s (k ∷ ks) js =
    let n : suc s + length ks ≡ s + suc (length ks) = omega arith in
    ap (λ t. slot_labels T e s 0 (G.settings k) ++ t) (kid_labels_append G T e (suc s) ks js ∙ ap (λ m. kid_labels G T e (suc s) ks ++ kid_labels G T e m js) n)
    ∙ sym (append_assoc (slot_labels T e s 0 (G.settings k)) (kid_labels G T e (suc s) ks) _)

module _ (G : Grammar) (T : Tables) (e : ℕ) (ks : List ℕ) (j : ℕ) (h : j < length ks) where
  before_long : length (take j ks) ≡ j
  before_long = length-take-le j ks (omega arith)

  -- one child more
  kids_more : kid_labels G T e 1 (take (suc j) ks) ≡ kid_labels G T e 1 (take j ks) ++ slot_labels T e (suc j) 0 (G.settings (get_or ks j 0))
  unfolding kid_labels
  kids_more =
      let n : 1 + length (take j ks) ≡ suc j = omega (arith, before_long) in
      ap (kid_labels G T e 1) (take-suc ks j 0 h) ∙ kid_labels_append G T e 1 (take j ks) (get_or ks j 0 ∷ [])
      ∙ ap (λ t. kid_labels G T e 1 (take j ks) ++ t) (append-nil _ ∙ ap (λ m. slot_labels T e m 0 (G.settings (get_or ks j 0))) n)

  kids_whole : kid_labels G T e 1 ks ≡ kid_labels G T e 1 (take j ks) ++ (slot_labels T e (suc j) 0 (G.settings (get_or ks j 0)) ++ kid_labels G T e (suc (suc j)) (drop (suc j) ks))
  unfolding kid_labels
  kids_whole =
      let n : 1 + length (take j ks) ≡ suc j = omega (arith, before_long) in
      ap (kid_labels G T e 1) (sym (take-append-drop j ks) ∙ ap (λ t. take j ks ++ t) (drop-cons ks j 0 h))
      ∙ kid_labels_append G T e 1 (take j ks) (get_or ks j 0 ∷ drop (suc j) ks)
      ∙ ap (λ m. kid_labels G T e 1 (take j ks) ++ kid_labels G T e m (get_or ks j 0 ∷ drop (suc j) ks)) n

  -- the numbers of child j are a part of those of all
  child_part : (hs : List Held) (n : ℕ) → part (kinds_width G (take j ks)) (G.settings (get_or ks j 0)) (numbered hs n (kid_labels G T e 1 ks))
      ≡ numbered (holding hs n (kid_labels G T e 1 (take j ks))) (unused hs n (kid_labels G T e 1 (take j ks))) (slot_labels T e (suc j) 0 (G.settings (get_or ks j 0)))
  child_part hs n =
      let a = kid_labels G T e 1 (take j ks) in
      let s = slot_labels T e (suc j) 0 (G.settings (get_or ks j 0)) in
      let r = kid_labels G T e (suc (suc j)) (drop (suc j) ks) in
      let hs' = holding hs n a in
      let n' = unused hs n a in
      let long : length (numbered hs n a) ≡ kinds_width G (take j ks) = numbered_long hs n a ∙ kid_labels_long G T e 1 (take j ks) in
      let width : length (numbered hs' n' s) ≡ G.settings (get_or ks j 0) = numbered_long hs' n' s ∙ slot_labels_long T e (suc j) 0 (G.settings (get_or ks j 0)) in
      let all : numbered hs n (kid_labels G T e 1 ks) ≡ numbered hs n a ++ (numbered hs' n' s ++ numbered (holding hs' n' s) (unused hs' n' s) r)
      = ap (numbered hs n) kids_whole ∙ numbered_append hs n a (s ++ r) ∙ ap (λ t. numbered hs n a ++ t) (numbered_append hs' n' s r) in
      ap (part (kinds_width G (take j ks)) (G.settings (get_or ks j 0))) all
      ∙ ap (take (G.settings (get_or ks j 0))) (drop_at (numbered hs n a) _ (kinds_width G (take j ks)) long)
      ∙ take_at (numbered hs' n' s) _ (G.settings (get_or ks j 0)) width

-- ── a node's settings in the list of all ──
-- after the settings of node m are put there, those of every other node are as they were
written_other : (G : Grammar) (l g : List ℕ) (m : ℕ) (ns : List ℕ) → m < length l → all_settings G l ≤ length g
    → length ns ≡ G.settings (G.left (get_or l m 0)) → (n : ℕ) (us : List ℕ) → n < length l → (n ≡ m → ⊥) → Written G l g n us
    → Written G l (place (all_settings G (take m l)) ns g) n us
written_other G l g m ns h room e n us k d w = go (dec_lt n m)
  where
    fits : all_settings G (take m l) + length ns ≤ length g
    fits = omega (arith, settings_inside G l m h)

    go : Dec (n < m) → Written G l (place (all_settings G (take m l)) ns g) n us
    go (yes q) = place_before g (all_settings G (take m l)) ns fits (all_settings G (take n l)) (G.settings (G.left (get_or l n 0))) (settings_before G l n m q k) ∙ w
    go (no q) = place_after g (all_settings G (take m l)) ns fits (all_settings G (take n l)) (G.settings (G.left (get_or l n 0))) (omega (arith, settings_before G l m n (omega arith) h)) ∙ w

written_this : (G : Grammar) (l g : List ℕ) (m : ℕ) (ns : List ℕ) → m < length l → all_settings G l ≤ length g
    → length ns ≡ G.settings (G.left (get_or l m 0)) → Written G l (place (all_settings G (take m l)) ns g) m ns
written_this G l g m ns h room e =
    ap (λ n. part (all_settings G (take m l)) n (place (all_settings G (take m l)) ns g)) (sym e)
    ∙ place_this g (all_settings G (take m l)) ns (omega (arith, settings_inside G l m h))

-- what is put there for node m, and nothing else
written_still : (G : Grammar) (l g g' : List ℕ) (F : ℕ → List ℕ) (m : ℕ) → Written G l g' m (F m)
    → ((n : ℕ) (us : List ℕ) → n < length l → (n ≡ m → ⊥) → Written G l g n us → Written G l g' n us)
    → (n : ℕ) → n < length l → Written G l g n (F n) → Written G l g' n (F n)
written_still G l g g' F m this others n k y = go (ℕ_discrete n m)
  where
    go : Dec (n ≡ m) → Written G l g' n (F n)
    go (yes q) = subst (λ t. Written G l g' t (F t)) (sym q) this
    go (no q) = others n (F n) k q y

-- ── the loop ──
-- what a slot's settings have become is put back among all
pub put_back : (at n : ℕ) (g ys : List ℕ) → n ≡ length ys → put_mid at n g ys ≡ place at ys g
put_back at n g ys e =
    ap (λ t. take at g ++ (ys ++ t)) (drop-drop n at g ∙ ap (λ m. drop (at + m) g) e) ∙ sym (append_assoc (take at g) ys (drop (at + length ys) g))

pub record Naming (x : Call) (nodes : List Node) (i s e first : ℕ) (holders₀ : List Holder) (g₀ : List ℕ) (holders : List Holder) (g : List ℕ) (next child j : ℕ) : Type 0 where
  pub few : next ≤ first + max_settings * j
  pub stands : child ≡ child_at (subtree_ends nodes) i j
  pub kept : length holders ≡ length holders₀
  pub long : length g ≡ length g₀
  pub beyond : drop (all_settings (grammar_in x) x.sheet.now) g ≡ drop (all_settings (grammar_in x) x.sheet.now) g₀
  pub given : (hs : List Held) → Holding hs s holders₀ →
      let p = get_or x.sheet.now i 0 in
      let xs = kid_labels (grammar_in x) (tables_in x) e 1 (take j ((grammar_in x).kids p)) in
      Holding (hs ++ held xs (numbered hs first xs)) s holders × (next ≡ unused hs first xs)
      × Puts (grammar_in x) x.sheet.now (subtree_ends nodes) i p (numbered hs first (kid_labels (grammar_in x) (tables_in x) e 1 ((grammar_in x).kids p))) j g₀ g

pub naming_none : {x : Call} {nodes : List Node} {i s e first : ℕ} {holders : List Holder} {g : List ℕ} → Naming x nodes i s e first holders g holders g first (i + 1) 0
unfolding kid_labels numbered unused
naming_none {nodes = nodes} {i} = record {
  few = omega arith;
  stands = child_first (subtree_ends nodes) i;
  kept = refl;
  long = refl;
  beyond = refl;
  given = λ hs q. (rw (append-nil hs) q, refl, λ F f. (λ m l z. z, λ m l. absurd (omega arith)));
}

module _ {x : Call} {nodes : List Node} {i s e first : ℕ} {holders₀ : List Holder} {g₀ : List ℕ} {holders : List Holder} {g : List ℕ} {next child j : ℕ}
    (n : Naming x nodes i s e first holders₀ g₀ holders g next child j) (r : Ready x nodes i first g₀)
    {ks : List ℕ} (ek : ks ≡ (grammar_in x).kids (get_or x.sheet.now i 0)) where
  module _ (more : j < length ks) where
    here : j < length ((grammar_in x).kids (get_or x.sheet.now i 0))
    here = omega (arith, ap length ek)

    there : child < length x.sheet.now
    there = omega (arith, n.stands, r.kinds_are.there j here)

    placed : (get_or nodes child unread).first_setting ≡ all_settings (grammar_in x) (take child x.sheet.now)
    placed = sym (first_at nodes child) ∙ r.places_are.each child there

    same_kind : (grammar_in x).settings ((grammar_in x).left (get_or x.sheet.now child 0)) ≡ (grammar_in x).settings (get_or ((grammar_in x).kids (get_or x.sheet.now i 0)) j 0)
    same_kind = ap (λ y. (grammar_in x).settings y) (ap (λ y. (grammar_in x).left (get_or x.sheet.now y 0)) n.stands ∙ r.kinds_are.kind j here)

    -- the child's width
    module _ {width : ℕ} (ew : width ≡ (grammar_in x).settings (get_or ks j 0)) (lw : width ≤ max_settings) where
      width_is : width ≡ (grammar_in x).settings (get_or ((grammar_in x).kids (get_or x.sheet.now i 0)) j 0)
      width_is = ew ∙ ap (λ t. (grammar_in x).settings (get_or t j 0)) ek

      pub naming_fits : (get_or nodes child unread).first_setting + width ≤ length g
      naming_fits = omega (arith, placed, width_is, same_kind, settings_inside (grammar_in x) x.sheet.now child there, r.room, n.long)

      -- its settings are k of all, from the place at on
      module _ {at k : ℕ} (ea : at ≡ (get_or nodes child unread).first_setting) (ew' : k ≡ width) where
        pub naming_long : length (take k (drop at g)) ≡ width
        naming_long = length_part at k g (omega (arith, naming_fits)) ∙ ew'

        pub naming_turn : {holders' : List Holder} {ys : List ℕ} {next' child' : ℕ} → Slot x.tables.down.now e (j + 1) s next holders (take k (drop at g)) holders' ys next'
            → length ys ≡ length (take k (drop at g)) → child' ≡ (get_or nodes child unread).end
            → Naming x nodes i s e first holders₀ g₀ holders' (put_mid at k g ys) next' child' (j + 1)
        naming_turn {holders'} {ys} {next'} o ly ec = record {
          few = omega (arith, o.few, naming_long, n.few);
          stands = child_next (subtree_ends nodes) i j n.stands (ec ∙ sym (end_at nodes child));
          kept = o.kept ∙ n.kept;
          long = same_len_mid at k g ys ly ∙ n.long;
          beyond = drop-put_mid at k g ys _ (omega (arith, ends, ea, ew', placed, width_is, same_kind)) (omega (arith, naming_fits, ea)) wide' ∙ n.beyond;
          given = step;
        }
          where
            ends : all_settings (grammar_in x) (take child x.sheet.now) + (grammar_in x).settings ((grammar_in x).left (get_or x.sheet.now child 0)) ≤ all_settings (grammar_in x) x.sheet.now
            ends = settings_inside (grammar_in x) x.sheet.now child there

            wide : length ys ≡ width
            wide = ly ∙ naming_long

            wide' : length ys ≡ k
            wide' = wide ∙ sym ew'

            new : put_mid at k g ys ≡ place (all_settings (grammar_in x) (take child x.sheet.now)) ys g
            new = put_back at k g ys (sym wide') ∙ ap (λ m. place m ys g) (ea ∙ placed)

            step : (hs : List Held) → Holding hs s holders₀ →
                let p = get_or x.sheet.now i 0 in
                let xs = kid_labels (grammar_in x) (tables_in x) e 1 (take (j + 1) ((grammar_in x).kids p)) in
                Holding (hs ++ held xs (numbered hs first xs)) s holders' × (next' ≡ unused hs first xs)
                × Puts (grammar_in x) x.sheet.now (subtree_ends nodes) i p (numbered hs first (kid_labels (grammar_in x) (tables_in x) e 1 ((grammar_in x).kids p))) (j + 1) g₀ (put_mid at k g ys)
            step hs q =
                let G = grammar_in x in
                let T = tables_in x in
                let l = x.sheet.now in
                let p = get_or l i 0 in
                let ks = G.kids p in
                let a = kid_labels G T e 1 (take j ks) in
                let v = G.settings (get_or ks j 0) in
                let z = slot_labels T e (suc j) 0 v in
                let (hold, en, keep) = n.given hs q in
                let hs' = holding hs first a in
                let n' = unused hs first a in
                let (hold₁, en₁, ey₁) = o.given hs' T.plausible_counts T.feasible_counts T.up hold in
                let lz : slot_labels T e (j + 1) 0 (length (take k (drop at g))) ≡ z = ap₂ (λ m w. slot_labels T e m 0 w) (add-one j) (naming_long ∙ width_is) in
                let ls : kid_labels G T e 1 (take (j + 1) ks) ≡ a ++ z = ap (λ m. kid_labels G T e 1 (take m ks)) (add-one j) ∙ kids_more G T e ks j here in
                let ns = numbered hs' n' z in
                let ey : ys ≡ ns = ey₁ ∙ ap₂ (λ m t. numbered hs' m t) en lz in
                let ex : next' ≡ unused hs' n' z = en₁ ∙ ap₂ (λ m t. unused hs' m t) en lz in
                let hold' : Holding (hs' ++ held z ns) s holders'
                = subst (λ m. Holding (hs' ++ held z (numbered hs' m z)) s holders') en
                (subst (λ t. Holding (hs' ++ held t (numbered hs' next t)) s holders') lz hold₁) in
                let long : length ns ≡ G.settings (G.left (get_or l child 0)) = numbered_long hs' n' z ∙ slot_labels_long T e (suc j) 0 v ∙ sym same_kind in
                let room : all_settings G l ≤ length g = omega (arith, r.room, n.long) in
                let eg : put_mid at k g ys ≡ place (all_settings G (take child l)) ns g = new ∙ ap (λ t. place (all_settings G (take child l)) t g) ey in
                let others : (m : ℕ) (us : List ℕ) → m < length l → (m ≡ child → ⊥) → Written G l g m us → Written G l (put_mid at k g ys) m us
                = λ m us b d y. rw eg (written_other G l g child ns there room long m us b d y) in
                rw ls (
                  rw (holding_append hs first a z) hold',
                  ex ∙ sym (unused_append hs first a z),
                  λ F f.
                      let own : F child ≡ ns = ap F n.stands ∙ f j here ∙ child_part G T e ks j here hs first in
                      let this : Written G l (put_mid at k g ys) child (F child) = rw (eg, own) (written_this G l g child ns there room long) in (
                        λ m b y. written_still G l g (put_mid at k g ys) F child this others m b ((keep F f).0 m b y),
                        λ b y. written_kids F this others (keep F f).1 b y (ℕ_discrete b j),
                      ),
                )
              where
                written_kids : (F : ℕ → List ℕ) → Written (grammar_in x) x.sheet.now (put_mid at k g ys) child (F child)
                    → ((m : ℕ) (us : List ℕ) → m < length x.sheet.now → (m ≡ child → ⊥) → Written (grammar_in x) x.sheet.now g m us → Written (grammar_in x) x.sheet.now (put_mid at k g ys) m us)
                    → ((b : ℕ) → b < j → Written (grammar_in x) x.sheet.now g (child_at (subtree_ends nodes) i b) (F (child_at (subtree_ends nodes) i b)))
                    → (b : ℕ) → b < j + 1 → Dec (b ≡ j) → Written (grammar_in x) x.sheet.now (put_mid at k g ys) (child_at (subtree_ends nodes) i b) (F (child_at (subtree_ends nodes) i b))
                written_kids F this others keep b y (yes q) =
                    subst (λ m. Written (grammar_in x) x.sheet.now (put_mid at k g ys) m (F m)) (n.stands ∙ ap (child_at (subtree_ends nodes) i) (sym q)) this
                written_kids F this others keep b y (no q) =
                    written_still (grammar_in x) x.sheet.now g (put_mid at k g ys) F child this others (child_at (subtree_ends nodes) i b) (r.kinds_are.there b (omega (arith, here))) (keep b (omega arith))

  -- all children's settings are numbered
  pub naming_done : j ≡ length ks → (hs : List Held) → Holding hs s holders₀ →
      let p = get_or x.sheet.now i 0 in
      let xs = kid_labels (grammar_in x) (tables_in x) e 1 ((grammar_in x).kids p) in
      Holding (hs ++ held xs (numbered hs first xs)) s holders × (next ≡ unused hs first xs)
      × Puts (grammar_in x) x.sheet.now (subtree_ends nodes) i p (numbered hs first xs) (length ((grammar_in x).kids p)) g₀ g
  naming_done h hs q =
      let kids = (grammar_in x).kids (get_or x.sheet.now i 0) in
      let few : j ≡ length kids = h ∙ ap length ek in
      let all : take j kids ≡ kids = take_all j kids (omega arith) in
      let (hold, en, keep) = n.given hs q in (
        rw all at hold,
        en ∙ ap (λ t. unused hs first (kid_labels (grammar_in x) (tables_in x) e 1 t)) all,
        λ F f. ((keep F f).0, λ b l. (keep F f).1 b (omega arith)),
      )
