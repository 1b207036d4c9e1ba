-- Text on its way out: bytes gather in a lent buffer, and go to a descriptor in the end, or before that where the next word has no room.
-- The first bytes of the buffer, so many as are held, wait to be written.
use Rattle.std.specs.Prelude.{ℕ, ◌+◌, ◌≤◌, ◌<◌, ◌≡◌, List, length}
use Rattle.lists.specs.Part.{place}

-- What adding a word does to a buffer s of which so many bytes are held, with the buffer and the number held afterwards:
-- it follows what is held; or it has no room there, and nothing changes.
pub data Added (s : List ℕ) (held : ℕ) (w s' : List ℕ) (held' : ℕ) : Type 0 where
  fits : held + length w ≤ length s → s' ≡ place held w s → held' ≡ held + length w → Added s held w s' held'
  full : length s < held + length w → s' ≡ s → held' ≡ held → Added s held w s' held'

-- What a word does where a descriptor is at hand:
-- it follows what is held; or it has no room there, and stands alone when that has gone out;
-- or it is longer than the whole buffer, and goes out after it.
pub data Appended (s : List ℕ) (held : ℕ) (w s' : List ℕ) (held' : ℕ) : Type 0 where
  behind : held + length w ≤ length s → s' ≡ place held w s → held' ≡ held + length w → Appended s held w s' held'
  alone : length s < held + length w → length w ≤ length s → s' ≡ place 0 w s → held' ≡ length w → Appended s held w s' held'
  through : length s < held + length w → length s < length w → s' ≡ s → held' ≡ 0 → Appended s held w s' held'
