-- An accepted sheet: what a check's acceptance says of it, and what its readers may lean on.
use mathlib.Core.Path.{◌≡◌, refl}
use mathlib.Core.List.{List, [], ◌∷◌}
use Prim.Native.Nat.{ℕ, ◌<◌}
use lib.ListN.{length, get_or}
use Rattle.lists.specs.Refusals.{accepted}
use Rattle.chains.specs.Grammar.{Grammar}
use Rattle.chains.specs.Tree.{Bush}
use Rattle.book.specs.Format.{grammar, kinds, prods}
use Rattle.bookcheck.specs.Accepted.{Accepted}
use Rattle.bookcheck.proofs.Accepted.{accepted_book}
use Rattle.sheet.specs.Reading.{all_settings}
use Rattle.sheet.specs.Refusals.{SheetDue}
use Rattle.sheet.specs.Trees.{Sound, Drawn, Fits}
use Rattle.sheet.proofs.Reading.{passed}
use Rattle.sheet.proofs.Trees.{drawn_read, sheet_tree}

-- a book that no row refuses is all that an accepted book is
pub book_accepted : (b : List ℕ) → Sound b → Accepted b
book_accepted b sound = (accepted_book b (kinds b) (prods b) (refl, sound)).0

-- THEOREM: a sheet that a check accepts fits its book, and the counts are its own
pub accepted_sheet : (b l : List ℕ) (n s : ℕ) → SheetDue b l (accepted (n ∷ s ∷ [])) → Fits b l × (n ≡ length l) × (s ≡ all_settings (grammar b) l)
accepted_sheet b l n s d = let (f, e) = (sheet_tree b l (n ∷ s ∷ [])).0 d in (f, cc, cc)

-- each byte is a production's number
pub byte_low : {G : Grammar} {l : List ℕ} {f : Bush} → Drawn G l f → (i : ℕ) → i < length l → get_or l i 0 < G.prods
byte_low d i h = (passed (drawn_read d) h).heads.0
