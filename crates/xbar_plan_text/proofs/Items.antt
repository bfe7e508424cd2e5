use Rattle.std.proofs.Common.{◌≡◌, ℕ, suc, Bool, true, false, if◌then◌else◌, List, [], ◌∷◌, map, length, refl, ap, Option, Some, None, Bor}
use Rattle.xbar_equip.specs.Len.{Line}
use Rattle.xbar_plan_text.specs.Texts.{read_all, member_of, kind_of, name_of, group_of_parts, is_line_count, number_of, line_of, station_of_parts, code_of}
use Rattle.xbar_plan_text.specs.{Texts.code_entry_of_parts, declared.read.{version.Version.Version, item_error.ItemError.ItemError}, Refusal.IsUnread}
use Rattle.{xbar_plan_text.proofs.ReadAll.read_map, xbar_plan.specs.{Tables.Station, declared.group.{GroupKind.GroupKind, Member.Member}}}
use Rattle.xbar_plan_text.specs.declared.read.item_error.ItemError.TheVariants as error

-- a part that can't be read makes the whole unreadable
pub passed_on : {A B : Type 0} {part : Option A} {whole : Option B} (wrong : ItemError) → (part ≡ None → whole ≡ None) → IsUnread part wrong → IsUnread whole wrong
passed_on (error.Part number expected) f unread = f unread
passed_on (error.Whole expected) f unread = f unread
passed_on error.Memory f unread = tt

as_many : (parts : List (Bor (List ℕ))) → length (map (λ (part : Bor (List ℕ)). part.now) parts) ≡ length parts
as_many [] = refl
as_many (part ∷ parts) = ap suc (as_many parts)

-- a group's parts
module _ (name kind : List ℕ) (members : List (Bor (List ℕ))) where
  pub group_reads : (own : List ℕ) (its : GroupKind) (places : List Member) → name_of name ≡ Some own → kind_of kind ≡ Some its
      → read_all (λ part. member_of its part.now) members ≡ Some places
      → group_of_parts (name ∷ kind ∷ map (λ part. part.now) members) ≡ Some (record { name = own; kind = its; members = places })
  group_reads own its places e1 e2 e3 = rw (e1, e2, read_map (member_of its) (λ (part : Bor (List ℕ)). part.now) members, e3)

  pub group_nameless : name_of name ≡ None → group_of_parts (name ∷ kind ∷ map (λ part. part.now) members) ≡ None
  group_nameless e1 = rw e1

  pub group_kindless : (own : List ℕ) → name_of name ≡ Some own → kind_of kind ≡ None → group_of_parts (name ∷ kind ∷ map (λ part. part.now) members) ≡ None
  group_kindless own e1 e2 = rw (e1, e2)

  pub group_placeless : (own : List ℕ) (its : GroupKind) → name_of name ≡ Some own → kind_of kind ≡ Some its
      → read_all (λ part. member_of its part.now) members ≡ None → group_of_parts (name ∷ kind ∷ map (λ part. part.now) members) ≡ None
  group_placeless own its e1 e2 e3 = rw (e1, e2, read_map (member_of its) (λ (part : Bor (List ℕ)). part.now) members, e3)

-- a number's parts
module _ (version : Version) (number : List ℕ) (lines : List (Bor (List ℕ))) where
  pub station_reads : (own : ℕ) (its : List Line) → is_line_count version (length lines) ≡ true → number_of number ≡ Some own
      → read_all (λ part. line_of part.now) lines ≡ Some its
      → station_of_parts version (number ∷ map (λ part. part.now) lines) ≡ Some (record { number = own; lines = its })
  station_reads own its e1 e2 e3 = rw (as_many lines, e1, e2, read_map line_of (λ (part : Bor (List ℕ)). part.now) lines, e3)

  pub station_miscounted : is_line_count version (length lines) ≡ false → station_of_parts version (number ∷ map (λ part. part.now) lines) ≡ None
  station_miscounted e1 = rw (as_many lines, e1)

  either_way : {A : Type 0} (b : Bool) (value : A) → (if b then value else value) ≡ value
  either_way true value = refl
  either_way false value = refl

  pub station_numberless : number_of number ≡ None → station_of_parts version (number ∷ map (λ part. part.now) lines) ≡ None
  station_numberless e1 = rw (e1, either_way {A = Option Station} (is_line_count version (length (map (λ part. part.now) lines))) None)

  pub station_lineless : (own : ℕ) → number_of number ≡ Some own → read_all (λ part. line_of part.now) lines ≡ None
      → station_of_parts version (number ∷ map (λ part. part.now) lines) ≡ None
  station_lineless own e1 e2 =
      rw (e1, read_map line_of (λ (part : Bor (List ℕ)). part.now) lines, e2, either_way {A = Option Station} (is_line_count version (length (map (λ part. part.now) lines))) None)

-- a code's parts
module _ (code : List ℕ) (names : List (Bor (List ℕ))) where
  pub entry_reads : (own : ℕ) (its : List (List ℕ)) → code_of code ≡ Some own → read_all (λ part. name_of part.now) names ≡ Some its
      → code_entry_of_parts (code ∷ map (λ part. part.now) names) ≡ Some (record { code = own; names = its })
  entry_reads own its e1 e2 = rw (e1, read_map name_of (λ (part : Bor (List ℕ)). part.now) names, e2)

  pub entry_codeless : code_of code ≡ None → code_entry_of_parts (code ∷ map (λ part. part.now) names) ≡ None
  entry_codeless e1 = rw e1

  pub entry_nameless : (own : ℕ) → code_of code ≡ Some own → read_all (λ part. name_of part.now) names ≡ None
      → code_entry_of_parts (code ∷ map (λ part. part.now) names) ≡ None
  entry_nameless own e1 e2 = rw (e1, read_map name_of (λ (part : Bor (List ℕ)). part.now) names, e2)
