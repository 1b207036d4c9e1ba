-- By tables that serve their grammar the two walks read the ranks of a tree's codes: upward those of its subtrees' own chains, downward those of the
-- whole tree's; and the labels of a node's entry agree exactly where the whole tree's chains join.
use mathlib.Core.Path.{◌≡◌, refl, sym, ap, ap₂, ◌∙◌, subst, subst₂, Σ_path}
use mathlib.Core.Logic.{inl, inr, ◌↔◌}
use mathlib.Core.List.{List, [], ◌∷◌, map}
use Prim.Native.Nat.{ℕ, suc, ◌+◌, ◌*◌, ◌<◌}
use native.Mathlib.Omega.{arith}
use lib.ListN.{get_or, take}
use lib.Seq.{get_or-take}
use Rattle.lists.specs.Part.{part}
use Rattle.lists.proofs.Parts.{get_d_part}
use Rattle.lists.proofs.Carries.{Carries}
use Rattle.chains.specs.Limits.{max_settings, max_kids}
use Rattle.chains.specs.Grammar.{Occ, Grammar, Lawful, width, Exists}
use Rattle.chains.specs.Tree.{Bush, nil, grow, size, flat, Kinded, Root, Sub, roots}
use Rattle.chains.specs.Chain.{Slotwise, Closure}
use Rattle.chains.specs.Grouping.{Says, Each}
use Rattle.chains.specs.Feasible.{Chosen}
use Rattle.chains.specs.State.{number}
use Rattle.chains.specs.Choice.{kid_codes, ChosenUp, ChosenDown}
use Rattle.chains.specs.Numbering.{Told}
use Rattle.chains.proofs.Says.{members_at}
use Rattle.chains.proofs.Step.{width_few}
use Rattle.chains.proofs.WellKinded.{sub_kinded, root_kind, root_kids, one_tree}
use Rattle.chains.proofs.Nodes.{sub_flat, sub_child}
use Rattle.chains.proofs.Sharing.{labels_told}
use Rattle.book.specs.Format.{occ}
use Rattle.ranks.specs.Entries.{Ranks, labels, entry_bytes, none}
use Rattle.members.specs.Sets.{member}
use Rattle.tables.specs.Entries.{picked, Downward, Ranked, DownEntry}
use Rattle.numbering.specs.Walk.{Tables, ranks, given, label_in, places, started}
use Rattle.numbering.specs.Places.{plausible_rank, feasible_rank, down_entry_of}
use Rattle.numbering.proofs.Told.{read_rank, Visited, visited, roots_told, ranks_told}
use Rattle.numbering.proofs.Listed.{label_of}
use Rattle.claims.proofs.Served.{Served, start_count, start_member}

-- ── a down entry's bytes ──
module _ (T : Tables) (e : ℕ) where
  abbrev bytes : List ℕ
  bytes = part (e * entry_bytes) entry_bytes T.down

  rank_byte : (j : ℕ) → j < max_kids → get_or bytes (labels + j) none ≡ given T e j
  rank_byte j h =
      let a : e * entry_bytes + (labels + j) ≡ e * entry_bytes + labels + j = omega arith in
      get_d_part (e * entry_bytes) entry_bytes T.down (labels + j) none (omega arith) ∙ ap (λ i. get_or T.down i none) a

  label_byte : (s a : ℕ) → s * max_settings + a < labels → get_or (take labels bytes) (s * max_settings + a) none ≡ label_in T e s a
  label_byte s a h = get_or-take labels bytes (s * max_settings + a) none h ∙ get_d_part (e * entry_bytes) entry_bytes T.down (s * max_settings + a) none (omega arith)

-- an occurrence that exists has its byte
module _ (G : Grammar) (L : Lawful G) (p : ℕ) (there : p < G.prods) (o : Occ) (x : Exists G p o) where
  byte_low : number o < labels
  byte_low = omega (arith, x.0, x.1, width_few G L p there o.0 x.0, L.few_kids p there)

  byte_occ : occ (number o) ≡ o
  byte_occ =
      let h : o.1 < max_settings = omega (arith, x.1, width_few G L p there o.0 x.0) in
      Σ_path (omega arith) (omega arith)

-- the code of node i of the sheet l: the one at its rank in its kind's set
abbrev pub code_of : Grammar → (sets l : List ℕ) (rank : ℕ → ℕ) → ℕ → ℕ
code_of G sets l rank i = member sets (G.left (get_or l i 0)) (rank i)

module _ {G : Grammar} (L : Lawful G) {s f : List ℕ} {T : Tables} (served : Served G s f T) where
  -- the plausible ranks that are read are below their counts
  pub ranks_below : (g : Bush) (ks : List ℕ) → Kinded G g ks → Ranks T.plausible_counts ks (ranks G T g)
  unfolding ranks
  ranks_below nil [] k = tt
  ranks_below nil (x ∷ ks) k = absurd k
  ranks_below (grow p cs rest) [] k = absurd k
  ranks_below (grow p cs rest) (x ∷ ks) k =
      (rw (← k.0.1) (served.up p (ranks G T cs) k.0.0 (ranks_below cs (G.kids p) k.1)).below, ranks_below rest ks k.2)

  module _ (tree : Bush) (kinded : Kinded G tree (G.start ∷ [])) (nodes : List ℕ) (told : Carries nodes 0 (places G T tree (started G T tree))) where
    abbrev kind : ℕ → ℕ
    kind i = G.left (get_or (flat tree) i 0)

    -- the codes at the ranks that are told of the nodes
    abbrev plausible_code : ℕ → ℕ
    plausible_code = code_of G s (flat tree) (plausible_rank nodes)

    abbrev feasible_code : ℕ → ℕ
    feasible_code = code_of G f (flat tree) (feasible_rank nodes)

    pub kind_at : (i q : ℕ) (ds : Bush) → Sub tree 0 i q ds → kind i ≡ G.left q
    kind_at i q ds t = ap (λ q. G.left q) (sub_flat tree i q ds 0 t)

    pub here : (i q : ℕ) (ds : Bush) → Sub tree 0 i q ds → Visited G T nodes i q ds
    here = visited G T nodes tree 0 (started G T tree) told

    pub in_place : (i q : ℕ) (ds : Bush) → Sub tree 0 i q ds → (q < G.prods) × Kinded G ds (G.kids q)
    in_place i q ds t = sub_kinded G tree (G.start ∷ []) 0 i q ds kinded t

    -- ── upward ──
    code_read : (i q : ℕ) (ds : Bush) → Sub tree 0 i q ds → plausible_code i ≡ member s (G.left q) (read_rank G T q ds)
    code_read i q ds t = ap₂ (member s) (kind_at i q ds t) (here i q ds t).plausible

    picked_codes : (g : Bush) (ks : List ℕ) (n : ℕ) → Kinded G g ks → ((i q : ℕ) (ds : Bush) → Sub g n i q ds → Sub tree 0 i q ds)
        → picked s ks (ranks G T g) ≡ map plausible_code (roots g n)
    unfolding picked ranks
    picked_codes nil [] n k within = refl
    picked_codes nil (x ∷ ks) n k within = absurd k
    picked_codes (grow p cs rest) [] n k within = absurd k
    picked_codes (grow p cs rest) (x ∷ ks) n k within =
        ap₂ ◌∷◌ (ap (λ t. member s t (read_rank G T p cs)) (sym k.0.1) ∙ sym (code_read n p cs (within n p cs (inl (refl, refl, refl)))))
        (picked_codes rest ks (suc (n + size cs)) k.2 (λ i q ds t. within i q ds (inr (inr t))))

    kids_picked : (i q : ℕ) (ds : Bush) → Sub tree 0 i q ds → picked s (G.kids q) (ranks G T ds) ≡ kid_codes plausible_code i ds
    kids_picked i q ds t = picked_codes ds (G.kids q) (suc i) (in_place i q ds t).1 (λ m p cs u. sub_child tree 0 i q ds m p cs t u)

    pub rise : ChosenUp G tree 0 plausible_code
    rise i q ds t =
        let (there, below) = in_place i q ds t in
        subst₂ (λ x cs. Says (G.settings (G.left q)) x (λ a b. Closure G q (Slotwise (λ a b. ⊥) (Each G (G.kids q) cs)) (0, a) (0, b)))
        (sym (code_read i q ds t)) (kids_picked i q ds t) (served.up q (ranks G T ds) there (ranks_below ds (G.kids q) below)).says

    pub plausible_below : (i q : ℕ) (ds : Bush) → Sub tree 0 i q ds → plausible_rank nodes i < get_or T.plausible_counts (G.left q) 0
    plausible_below i q ds t =
        let (there, below) = in_place i q ds t in
        rw (here i q ds t).plausible (served.up q (ranks G T ds) there (ranks_below ds (G.kids q) below)).below

    -- ── the root ──
    root_first : (u : ℕ → ℕ) (g : Bush) (k n : ℕ) → Kinded G g (k ∷ []) → Root g n 0 n × (get_or (map u (roots g n)) 0 0 ≡ u n)
    root_first u nil k n h = absurd h
    root_first u (grow p cs rest) k n h = (refl, refl)

    root_started : feasible_rank nodes 0 ≡ started G T tree 0
    root_started = roots_told G T nodes tree 0 (started G T tree) told 0 0 (root_first (λ i. i) tree G.start 0 kinded).0

    pub root_rank : feasible_rank nodes 0 ≡ plausible_rank nodes 0
    root_rank =
        root_started ∙ ap (λ (l : List ℕ). get_or l 0 0) (ranks_told G T nodes tree 0 (started G T tree) told) ∙ (root_first (plausible_rank nodes) tree G.start 0 kinded).1

    pub started_below : started G T tree 0 < get_or T.plausible_counts G.start 0
    started_below = members_at (λ k r. r < get_or T.plausible_counts k 0) (G.start ∷ []) (ranks G T tree) (ranks_below tree (G.start ∷ []) kinded) 0 (omega arith)

    -- ── downward ──
    -- the entry of a node whose feasible rank is below its count
    pub entry_read : (i q : ℕ) (ds : Bush) → Sub tree 0 i q ds → feasible_rank nodes i < get_or T.feasible_counts (G.left q) 0
        → DownEntry G q f T.feasible_counts (Downward G q (feasible_code i) (kid_codes plausible_code i ds)) (bytes T (down_entry_of nodes i))
    entry_read i q ds t l =
        let (there, below) = in_place i q ds t in
        let read = served.down q (feasible_rank nodes i) (ranks G T ds) there l (ranks_below ds (G.kids q) below) in
        let placed = subst (λ e. DownEntry G q f T.feasible_counts (Downward G q (member f (G.left q) (feasible_rank nodes i)) (picked s (G.kids q) (ranks G T ds))) (bytes T e))
        (sym (here i q ds t).entry) read in
        subst₂ (λ x cs. DownEntry G q f T.feasible_counts (Downward G q x cs) (bytes T (down_entry_of nodes i)))
        (ap (λ k. member f k (feasible_rank nodes i)) (sym (kind_at i q ds t))) (kids_picked i q ds t) placed

    -- the rank that it hands to a child
    pub handed : (i q : ℕ) (ds : Bush) (t : Sub tree 0 i q ds) → feasible_rank nodes i < get_or T.feasible_counts (G.left q) 0 → (j m : ℕ) → Root ds (suc i) j m
        → Ranked f T.feasible_counts (width G q (suc j)) (get_or (G.kids q) j 0) (suc j) (Downward G q (feasible_code i) (kid_codes plausible_code i ds)) (feasible_rank nodes m)
    handed i q ds t l j m r =
        let (there, below) = in_place i q ds t in
        let few = root_kids G ds (G.kids q) (suc i) j m below r in
        let few_enough : j < max_kids = omega (arith, L.few_kids q there) in
        rw ((here i q ds t).handed j m r, ← rank_byte T (down_entry_of nodes i) j few_enough) ((entry_read i q ds t l).ranks j few)

    all_below : (g : Bush) (ks : List ℕ) (n : ℕ) → Kinded G g ks → ((i q : ℕ) (ds : Bush) → Sub g n i q ds → Sub tree 0 i q ds)
        → ((j m : ℕ) → Root g n j m → feasible_rank nodes m < get_or T.feasible_counts (get_or ks j 0) 0)
        → (i q : ℕ) (ds : Bush) → Sub g n i q ds → feasible_rank nodes i < get_or T.feasible_counts (G.left q) 0
    all_below nil ks n k within tops i q ds t = absurd t
    all_below (grow p cs rest) [] n k within tops i q ds t = absurd k
    all_below (grow p cs rest) (x ∷ ks) n k within tops i q ds (inl (ei, ep, ec)) = rw (ei, ← ep, k.0.1) (tops 0 n refl)
    all_below (grow p cs rest) (x ∷ ks) n k within tops i q ds (inr (inl t)) =
        let mine : feasible_rank nodes n < get_or T.feasible_counts (G.left p) 0 = rw k.0.1 (tops 0 n refl) in
        all_below cs (G.kids p) (suc n) k.1 (λ i q ds u. within i q ds (inr (inl u)))
        (λ j m r. (handed n p cs (within n p cs (inl (refl, refl, refl))) mine j m r).below) i q ds t
    all_below (grow p cs rest) (x ∷ ks) n k within tops i q ds (inr (inr t)) =
        all_below rest ks (suc (n + size cs)) k.2 (λ i q ds u. within i q ds (inr (inr u))) (λ j m r. tops (suc j) m r) i q ds t

    pub feasible_below : (i q : ℕ) (ds : Bush) → Sub tree 0 i q ds → feasible_rank nodes i < get_or T.feasible_counts (G.left q) 0
    feasible_below = all_below tree (G.start ∷ []) 0 kinded (λ i q ds t. t) tops
      where
        tops : (j m : ℕ) → Root tree 0 j m → feasible_rank nodes m < get_or T.feasible_counts (get_or (G.start ∷ []) j 0) 0
        tops j m r =
            let (ej, em) = one_tree G tree G.start 0 j m kinded r in
            rw (ej, em, root_started, ← start_count L served) started_below

    pub fall : ChosenDown G tree plausible_code feasible_code
    fall = record { root = at_root; child = at_child }
      where
        at_root : feasible_code 0 ≡ plausible_code 0
        at_root =
            let (q, ds, t, hd) = root_kind G tree (G.start ∷ []) 0 0 0 kinded (root_first (λ i. i) tree G.start 0 kinded).0 in
            let e : kind 0 ≡ G.start = kind_at 0 q ds t ∙ hd.1 in
            rw (root_rank, e) (sym (start_member L served (plausible_rank nodes 0) (rw (← root_rank, root_started) started_below)))

        at_child : (i q : ℕ) (ds : Bush) → Sub tree 0 i q ds → (j m : ℕ) → Root ds (suc i) j m
            → Says (G.settings (get_or (G.kids q) j 0)) (feasible_code m) (λ a b. Closure G q (Chosen G q (feasible_code i) (kid_codes plausible_code i ds)) (suc j, a) (suc j, b))
        at_child i q ds t j m r =
            let (q', es, u, hd) = root_kind G ds (G.kids q) (suc i) j m (in_place i q ds t).1 r in
            let e : kind m ≡ get_or (G.kids q) j 0 = kind_at m q' es (sub_child tree 0 i q ds m q' es t u) ∙ hd.1 in
            rw e (handed i q ds t (feasible_below i q ds t) j m r).says

    -- ── labels ──
    labels_read : (i q : ℕ) (ds : Bush) → Sub tree 0 i q ds → (o o' : Occ) → Exists G q o → Exists G q o'
        → (label_of G T (down_entry_of nodes i) o ≡ label_of G T (down_entry_of nodes i) o') ↔ Closure G q (Chosen G q (feasible_code i) (kid_codes plausible_code i ds)) o o'
    labels_read i q ds t o o' x x' =
        let there = (in_place i q ds t).0 in
        let e = down_entry_of nodes i in
        let l = byte_low G L q there o x in
        let l' = byte_low G L q there o' x' in
        let b = byte_occ G L q there o x in
        let b' = byte_occ G L q there o' x' in
        let same = (entry_read i q ds t (feasible_below i q ds t)).blocks.same (number o) (number o') l l' (subst (Exists G q) (sym b) x) (subst (Exists G q) (sym b') x') in
        let alike = subst₂ (λ y z. (y ≡ z) ↔ Downward G q (feasible_code i) (kid_codes plausible_code i ds) (occ (number o)) (occ (number o')))
        (label_byte T e o.0 o.1 l) (label_byte T e o'.0 o'.1 l') same in
        subst₂ (λ y z. (label_of G T e o ≡ label_of G T e o') ↔ Downward G q (feasible_code i) (kid_codes plausible_code i ds) y z) b b' alike

    -- THEOREM: the labels of each node's entry tell what the whole tree's chains join
    pub entries_told : Told G tree (λ i o o'. label_of G T (down_entry_of nodes i) o ≡ label_of G T (down_entry_of nodes i) o')
    entries_told =
        labels_told G L G.start tree kinded plausible_code feasible_code rise fall
        (λ i o o'. label_of G T (down_entry_of nodes i) o ≡ label_of G T (down_entry_of nodes i) o') labels_read
