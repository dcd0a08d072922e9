-- The calls over bytes answer what demand 3 asks: each is `ask` of the store that the image is read as, rows by the names that they say.
use Rattle.std.specs.Prelude.{None, Option, Some}
use mathlib.Core.Path.{◌≡◌, refl, sym, ap, ◌∙◌}
use mathlib.Core.List.{List, [], ◌∷◌, map}
use mathlib.Core.Bool.{Bool, true, false, cond}
use Prim.Native.Nat.{ℕ, suc, ◌≤◌}
use lib.Dec.{ltb}
use lib.ListN.{length, length-map}
use borrow.Author.Tests.{le-ltb, ltb-false}
use Rattle.wire.specs.Parse.{Parsed, fault, got, never-got}
use Rattle.wire.specs.Codec.{whole, decode}
use Rattle.wire.specs.Orders.{by_number, by_bytes}
use Rattle.wire.specs.Maps.{Map, get}
use Rattle.wire.specs.Lists.{Every}
use Rattle.image.specs.Meaning.{Text, Kind, Entries, Attributes, Store, directory, file, symlink, special}
use Rattle.image.specs.StoreLayout.{store}
use Rattle.image.specs.RoundTrip.{read_image}
use Rattle.survey.specs.Verdict.{number_of, verdict_of, judge}
use Rattle.survey.specs.declared.refusal.Refusal.{Refusal}
use Rattle.std.proofs.lemmas.Option.{none-some, same_Some}
use Rattle.survey.specs.declared.refusal.Refusal.TheVariants as D
use Rattle.rules.specs.Initial.{Initial}
use Rattle.rules.specs.Answers.{Answer, refused, first_of, unless}
use Rattle.rules.specs.Stacks.{stack, layers}
use Rattle.rules.specs.Reads.{look, entries, values}
use Rattle.rules.specs.FileAttrs.{FileAttr}
use Rattle.rules.specs.Views.{if_directory, listed, valued, view_at}
use Rattle.rules.specs.Asks.{Ask, rows_of, name_rows, names_of, few_rows, reply, ask}
use Rattle.rules.specs.Changes.{map_if}
use Rattle.rules.specs.Starts.{Started}
use Rattle.rules.specs.PlacedStacks.{placed_records, placed_node}
use Rattle.rules.specs.ReadCalls.{of_store, over_image, map_answer, Row, row_of, entry_rows, attribute_rows, named, asked}
use Rattle.rules.proofs.MapValues.{map_row, map_rows}
use Rattle.rules.proofs.Forgotten.{forgotten, entries-forgotten, values-forgotten}
use Rattle.rules.proofs.PlacedStack.{placed-stack, placed-node}
use Rattle.rules.proofs.Standing.{Stands, Standing, placed-entries-stand, placed-values-stand, rows-stand-all}

-- ---- 1 and 2

-- nothing follows
read-end : (img : List ℕ) {s : Store} {r : List ℕ} → read_image img ≡ got s r → read_image img ≡ got s []
unfolding decode
read-end img {s} {r} e = go (store.read img) e
  where
    go : (o : Parsed Store) → whole o ≡ got s r → whole o ≡ got s []
    go (fault f) d = never-got d
    go (got x []) d = cc
    go (got x (y ∷ t)) d = never-got d

-- of an image that is not refused, what its store answers
pub over-fine : {A : Type 0} (f : Store → Answer A) (img : List ℕ) {s : Store} → length img ≤ 65536 → read_image img ≡ got s [] → over_image f img ≡ f s
unfolding over_image
over-fine f img l e = rw (le-ltb 65536 (length img) l, e)

module _ {A B : Type 0} (g : A → B) (f : Store → Answer A) (h : Store → Answer B) where
  over-same : (img : List ℕ) → ((s : Store) → read_image img ≡ got s [] → map_answer g (f s) ≡ h s) → map_answer g (over_image f img) ≡ over_image h img
  unfolding over_image
  over-same img k = go (ltb 65536 (length img)) (read_image img) refl
    where
      go : (b : Bool) (o : Parsed Store) → read_image img ≡ o → map_answer g (cond b (refused 1) (of_store f o)) ≡ cond b (refused 1) (of_store h o)
      go true o e = refl
      go false (fault y) e = refl
      go false (got s r) e = k s (read-end img e)

-- by the verdict of the one pass
pub verdict-fine : (img : List ℕ) → verdict_of img ≡ None → (s : Store) × (read_image img ≡ got s []) × (length img ≤ 65536)
unfolding verdict_of
verdict-fine img v = go (ltb 65536 (length img)) refl (read_image img) refl v
  where
    go : (b : Bool) → ltb 65536 (length img) ≡ b → (o : Parsed Store) → read_image img ≡ o → cond b (Some D.ImageTooLong) (judge o) ≡ None
        → (s : Store) × (read_image img ≡ got s []) × (length img ≤ 65536)
    go true l o e d = absurd (none-some _ (sym d))
    go false l (fault f) e d = absurd (none-some _ (sym d))
    go false l (got s r) e d = (s, read-end img e, ltb-false 65536 (length img) l)

pub verdict-refused : {A : Type 0} (f : Store → Answer A) (img : List ℕ) (v : Refusal) → verdict_of img ≡ Some v → over_image f img ≡ refused (number_of v)
unfolding verdict_of over_image
verdict-refused f img v = go (ltb 65536 (length img)) (read_image img)
  where
    go : (b : Bool) (o : Parsed Store) → cond b (Some D.ImageTooLong) (judge o) ≡ Some v → cond b (refused 1) (of_store f o) ≡ refused (number_of v)
    go true o e = ap (λ (r : Refusal). refused (number_of r)) (same_Some _ _ e)
    go false (fault y) e = ap (λ (r : Refusal). refused (number_of r)) (same_Some _ _ e)
    go false (got s r) e = absurd (none-some _ e)

-- ---- rows

-- a row says the name that stands at its start
rows_named : {A : Type 0} (img : List ℕ) (f : A → ℕ) (l : List (Text × (ℕ × A))) → Every (λ e. Stands img e.0 e.1.0) l
    → map (named img) (map (row_of f) l) ≡ map (map_row by_bytes f) (map (map_row by_bytes (λ (x : ℕ × A). x.1)) l)
rows_named img f [] h = refl
rows_named img f (e ∷ l) h = rw (h.0, rows_named img f l h.1)

map-plain : (l : List (Text × ℕ)) → map (map_row by_bytes (λ (i : ℕ). i)) l ≡ l
map-plain [] = refl
map-plain (e ∷ l) = ap (λ (t : List (Text × ℕ)). e ∷ t) (map-plain l)

map-names : {A : Type 0} (l : List (Text × A)) → map (map_row by_bytes (λ (a : A). 0)) l ≡ name_rows l
map-names [] = refl
map-names (e ∷ l) = ap (λ (t : List (Text × ℕ)). (e.0, 0) ∷ t) (map-names l)

length-names : {A : Type 0} (l : List (Text × A)) → length (name_rows l) ≡ length l
length-names [] = refl
length-names (e ∷ l) = ap suc (length-names l)

-- rows of a list with starts, by the list without
rows-of : {A : Type 0} (img : List ℕ) (f : A → ℕ) (m : Started A) (n : Map by_bytes A) → Standing img m → forgotten m ≡ n
    → map (named img) (map (row_of f) m.rows) ≡ map (map_row by_bytes f) n.rows
rows-of {A} img f m n h e =
    rows_named img f m.rows (rows-stand-all img m h) ∙ ap (map (map_row by_bytes f)) (sym (map_rows by_bytes (λ (x : ℕ × A). x.1) m))
    ∙ ap (λ (l : Map by_bytes A). map (map_row by_bytes f) l.rows) e

module _ (img : List ℕ) (i : ℕ) {s : Store} (e : read_image img ≡ got s []) where
  -- The rows of a listing say its names and inodes, in the same number and order.
  pub entry-rows : map (named img) (entry_rows img i) ≡ (look entries (stack i (layers s)) (get by_number i s.base)).rows
  unfolding entry_rows
  entry-rows =
      rows-of img (λ inode. inode) _ _ (placed-entries-stand img i)
      (rw (placed-stack img i e, placed-node img i e) at (entries-forgotten (placed_records img i) (placed_node img i))) ∙ map-plain _

  pub attribute-rows : map (named img) (attribute_rows img i) ≡ name_rows (look values (stack i (layers s)) (get by_number i s.base)).rows
  unfolding attribute_rows
  attribute-rows =
      rows-of img (λ value. 0) _ _ (placed-values-stand img i)
      (rw (placed-stack img i e, placed-node img i e) at (values-forgotten (placed_records img i) (placed_node img i)))
      ∙ map-names (look values (stack i (layers s)) (get by_number i s.base)).rows

  -- so refusal 5 may be judged by either
  pub entry-count : length (entry_rows img i) ≡ length (look entries (stack i (layers s)) (get by_number i s.base)).rows
  entry-count = sym (length-map (entry_rows img i) (named img)) ∙ ap length entry-rows

  pub attribute-count : length (attribute_rows img i) ≡ length (look values (stack i (layers s)) (get by_number i s.base)).rows
  attribute-count =
      sym (length-map (attribute_rows img i) (named img)) ∙ ap length attribute-rows ∙ length-names (look values (stack i (layers s)) (get by_number i s.base)).rows

-- ---- listings

module _ (img : List ℕ) (rows : List Row) where
  -- rows in place of names, and names in place of rows
  abbrev renamed : Answer (Option (List (Text × ℕ))) → Answer (Option (List (Text × ℕ)))
  renamed a = map_answer (map_if (map (named img))) (map_answer (map_if (λ l. rows)) a)

  given-renamed : (o : Option ℕ) (l : List (Text × ℕ)) → map (named img) rows ≡ l → renamed (unless o (Some l)) ≡ unless o (Some l)
  given-renamed None l e = rw e
  given-renamed (Some n) l e = refl

  abbrev listing_reply : ℕ → Option Entries → Answer (Option (List (Text × ℕ)))
  listing_reply lent o = unless (first_of ((5, few_rows lent o) ∷ [])) (rows_of o)

  listing-renamed : (lent : ℕ) (a : Option FileAttr) (es : Entries) → map (named img) rows ≡ es.rows → renamed (listing_reply lent (listed a es)) ≡ listing_reply lent (listed a es)
  listing-renamed lent None es e = refl
  listing-renamed lent (Some a) es e = go a.type
    where
      go : (k : Kind) → renamed (listing_reply lent (if_directory k es)) ≡ listing_reply lent (if_directory k es)
      go directory = given-renamed (first_of ((5, few_rows lent (Some es)) ∷ [])) es.rows e
      go file = refl
      go symlink = refl
      go (special x) = refl

  abbrev names_reply : ℕ → Option Attributes → Answer (Option (List (Text × ℕ)))
  names_reply lent o = unless (first_of ((5, few_rows lent o) ∷ [])) (names_of o)

  names-renamed : (lent : ℕ) (a : Option FileAttr) (vs : Attributes) → map (named img) rows ≡ name_rows vs.rows → renamed (names_reply lent (valued a vs)) ≡ names_reply lent (valued a vs)
  names-renamed lent None vs e = refl
  names-renamed lent (Some a) vs e = given-renamed (first_of ((5, few_rows lent (Some vs)) ∷ [])) (name_rows vs.rows) e

-- ---- the calls

module _ (initial : Initial) where
  listing-asked : (i lent : ℕ) (img : List ℕ) → asked initial (Ask.listing i lent) img ≡ over_image (ask initial (Ask.listing i lent)) img
  unfolding reply
  listing-asked i lent img =
      over-same _ _ _ img (λ s e. listing-renamed img (entry_rows img i) lent (view_at initial s i).attributes (look entries (stack i (layers s)) (get by_number i s.base)) (entry-rows img i e))

  names-asked : (i lent : ℕ) (img : List ℕ) → asked initial (Ask.names i lent) img ≡ over_image (ask initial (Ask.names i lent)) img
  unfolding reply
  names-asked i lent img =
      over-same _ _ _ img (λ s e. names-renamed img (attribute_rows img i) lent (view_at initial s i).attributes (look values (stack i (layers s)) (get by_number i s.base)) (attribute-rows img i e))

  -- Whatever is asked, and whatever the bytes are: the call's answer is that of the store which the image is read as, after refusals 1 and 2.
  pub calls-ask : (q : Ask) (img : List ℕ) → asked initial q img ≡ over_image (ask initial q) img
  calls-ask (Ask.exists i) img = refl
  calls-ask (Ask.type i) img = refl
  calls-ask (Ask.attributes i) img = refl
  calls-ask (Ask.link_text i) img = refl
  calls-ask (Ask.parent i) img = refl
  calls-ask (Ask.child i name) img = refl
  calls-ask (Ask.attribute i name) img = refl
  calls-ask (Ask.listing i lent) img = listing-asked i lent img
  calls-ask (Ask.names i lent) img = names-asked i lent img

  -- so on an image of a store that is at most 65,536 bytes long each call gives what demand 3 says of the store
  pub calls-answer : (q : Ask) (img : List ℕ) {s : Store} → length img ≤ 65536 → read_image img ≡ got s [] → asked initial q img ≡ ask initial q s
  calls-answer q img l e = calls-ask q img ∙ over-fine (ask initial q) img l e
