-- The six columns of a slice after a write of one field of one slot.
use Rattle.std.proofs.Common.{◌≡◌, ℕ, ◌<◌, List, map, length, get_or, set, sym, ap}
use Rattle.std.proofs.lemmas.List.{map-set, set-get_or, get_or-map, length-map}

-- a column whose field is not written
pub column_kept : {A B : Type 0} (f : A → B) (l : List A) (i : ℕ) (d a : A) → i < length l → f a ≡ f (get_or l i d) → map f (set l i a) ≡ map f l
column_kept f l i d a h e = rw (map-set f l i a, e, sym (get_or-map f l i d (f d) h)) (set-get_or (map f l) i (f d))

-- a slice has as many slots as a column has numbers
pub same_length : {A B : Type 0} (f : A → B) (l l' : List A) → map f l' ≡ map f l → length l' ≡ length l
same_length f l l' e = simp length-map at (ap length e)

-- what `grind` needs for a write of one field
pub ruleset column_steps = (map-set, column_kept)
