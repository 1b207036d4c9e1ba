-- Sets with right tables are closed under the steps of both passes.
use mathlib.Core.Path.{◌≡◌, refl, sym, ap₂, subst, subst₂}
use mathlib.Core.List.{List, [], ◌∷◌}
use Prim.Native.Nat.{ℕ, suc, ◌<◌}
use native.Mathlib.Omega.{arith}
use lib.ListN.{length, get_or}
use Rattle.chains.specs.Grammar.{Grammar, Lawful, width}
use Rattle.chains.specs.Grouping.{Says, Members}
use Rattle.chains.specs.Steps.{StepDown}
use Rattle.chains.proofs.Says.{says_unique}
use Rattle.chains.proofs.Plausible.{ClosedUp}
use Rattle.chains.proofs.Feasible.{ClosedDown}
use Rattle.members.specs.Sets.{Has, Placed}
use Rattle.ranks.specs.Entries.{Ranks}
use Rattle.tables.specs.Entries.{picked, Upward, Downward, UpTable, DownTable}
use Rattle.members.proofs.Ranked.{ranked_has, rank_of}

-- members of the sets of the kinds ks, by their ranks
pub record ByRank (s c ks cs : List ℕ) : Type 0 where
  pub ranks : List ℕ
  pub below : Ranks c ks ranks
  pub picks : picked s ks ranks ≡ cs

by_rank : (n : ℕ) (s c : List ℕ) → ((k : ℕ) → k < n → Placed s c k) → (ks cs : List ℕ) → ((j : ℕ) → j < length ks → get_or ks j 0 < n) → Members (Has s c) ks cs → ByRank s c ks cs
unfolding picked
by_rank n s c placed [] [] low m = record { ranks = []; below = tt; picks = refl }
by_rank n s c placed [] (x ∷ cs) low m = absurd m
by_rank n s c placed (k ∷ ks) [] low m = absurd m
by_rank n s c placed (k ∷ ks) (x ∷ cs) low m =
    let (r, l, e) = rank_of (placed k (low 0 (omega arith))) m.0 in
    let rest = by_rank n s c placed ks cs (λ j h. low (suc j) (omega arith)) m.1 in
    record { ranks = r ∷ rest.ranks; below = (l, rest.below); picks = ap₂ ◌∷◌ e rest.picks }

module _ {G : Grammar} (L : Lawful G) {s c : List ℕ} (placed : (k : ℕ) → k < G.kinds → Placed s c k) where
  pub closed_up : (up : List ℕ) → UpTable G s c up → ClosedUp G (Has s c)
  closed_up up table p x there (cs, ms, says) =
      let by = by_rank G.kinds s c placed (G.kids p) cs (λ j h. L.kids_in p j there h) ms in
      let r = table p by.ranks there by.below in
      let said = subst (λ (u : List ℕ). Says (width G p 0) x (λ a b. Upward G p u (0, a) (0, b))) (sym by.picks) says in
      subst (Has s c (G.left p)) (says_unique r.says said) (ranked_has (placed (G.left p) (L.left_in p there)) _ r.below)

  module _ {f d : List ℕ} (placed_f : (k : ℕ) → k < G.kinds → Placed f d k) where
    pub closed_down : (down : List ℕ) → DownTable G s c f d down → ((x : ℕ) → Has s c G.start x → Has f d G.start x) → ClosedDown G (Has s c) (Has f d)
    closed_down down table at_start = record { at_start = at_start; below = under }
      where
        under : (p j x : ℕ) → p < G.prods → j < length (G.kids p) → StepDown G (Has f d) (Has s c) p (suc j) x → Has f d (get_or (G.kids p) j 0) x
        under p j x there low (y, cs, m, ms, says) =
            let by = by_rank G.kinds s c placed (G.kids p) cs (λ j h. L.kids_in p j there h) ms in
            let (u, lu, e) = rank_of (placed_f (G.left p) (L.left_in p there)) m in
            let r = (table p u by.ranks there lu by.below).ranks j low in
            let said = subst₂ (λ (z : ℕ) (v : List ℕ). Says (width G p (suc j)) x (λ a b. Downward G p z v (suc j, a) (suc j, b))) (sym e) (sym by.picks) says in
            subst (Has f d (get_or (G.kids p) j 0)) (says_unique r.says said) (ranked_has (placed_f (get_or (G.kids p) j 0) (L.kids_in p j there low)) _ r.below)
