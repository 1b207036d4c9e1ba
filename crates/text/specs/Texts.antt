-- The same of a text that owns its buffer: it is the list of the bytes that wait to be written, and what lies behind them decides nothing.
use Rattle.std.specs.Prelude.{ℕ, ◌+◌, ◌≤◌, ◌<◌, ◌≡◌, List, [], ◌++◌, length}

-- What adding a word does to a text s with room for n bytes, with the text afterwards:
-- it follows what is held; or it has no room there, and nothing changes.
pub data AddedTo (n : ℕ) (s w s' : List ℕ) : Type 0 where
  fits : length s + length w ≤ n → s' ≡ s ++ w → AddedTo n s w s'
  full : n < length s + length w → s' ≡ s → AddedTo n s w s'

-- What a word does where a descriptor is at hand:
-- it follows what is held; or it has no room there, and stands alone when that has gone out;
-- or it is longer than the whole buffer, and goes out after it.
pub data AppendedTo (n : ℕ) (s w s' : List ℕ) : Type 0 where
  behind : length s + length w ≤ n → s' ≡ s ++ w → AppendedTo n s w s'
  alone : n < length s + length w → length w ≤ n → s' ≡ w → AppendedTo n s w s'
  through : n < length s + length w → n < length w → s' ≡ [] → AppendedTo n s w s'
