-- A rising list changed under several keys at once: of each key what stands under it afterwards, or none.
use Rattle.std.specs.Prelude.{Bool, true, false, List, [], ◌∷◌, ◌++◌, None, Option, Some}
use Rattle.wire.specs.Order.{Order}
use Rattle.wire.specs.Maps.{Map, over}
use Rattle.change.specs.Cuts.{rows_below, rows_above}

-- whether something stands there
abbrev pub is_there : {A : Type 0} → Option A → Bool
is_there None = false
is_there (Some a) = true

module _ {K A : Type 0} (O : Order K) where
  -- the key's row, if something stands under it
  abbrev pub row_if : K → Option A → List (K × A)
  row_if k None = []
  row_if k (Some v) = (k, v) ∷ []

  -- rows copied up to each key in turn, and that key's row changed
  unfoldable pub edit_rows : List (K × Option A) → List (K × A) → List (K × A)
  edit_rows [] l = l
  edit_rows (e ∷ es) l = rows_below O e.0 l ++ (row_if e.0 e.1 ++ edit_rows es (rows_above O e.0 l))

  -- what is put under each key in turn
  abbrev pub put_all : List (K × Option A) → Map O A → Map O A
  put_all es m = over O (λ k o old. o) es m
