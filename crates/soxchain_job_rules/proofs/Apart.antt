-- Files of a job that are apart from each other, and from the inputs.
use Rattle.std.proofs.Common.{ℕ, ◌+◌, ◌<◌, List, [], ◌∷◌, ◌++◌, length, take, get_or}
use Rattle.std.proofs.lemmas.List.{take_more}
use Rattle.std.proofs.lemmas.List.Elements.{All-push}
use Rattle.std.proofs.lemmas.Option.{slice_get-get_or}
use Rattle.std.proofs.lemmas.List.Quantifiers.{all_pairs_push}
use Rattle.soxchain_job_rules.specs.declared.own_file.OwnFile.{OwnFile}
use Rattle.soxchain_job_rules.specs.declared.places.Place.{Place}
use Rattle.soxchain_job_rules.specs.declared.places.Rival.{Rival}
use Rattle.soxchain_job_rules.specs.Places.{AreApart, IsApartFrom, IsApartFromOwn, IsFirstClash, IsFirstRival, IsSameFile}

-- one more file, apart from all before it
AreApart-push : (inputs : List Place) (own : List (OwnFile × Place)) (file : OwnFile × Place) → AreApart inputs own → IsApartFrom file.1 inputs → IsApartFromOwn file.1 own → AreApart inputs (own ++ file ∷ [])
AreApart-push inputs own file apart from_inputs from_own = record {
  from_inputs = All-push (λ other. IsApartFrom other.1 inputs) own file apart.from_inputs from_inputs;
  from_own = all_pairs_push (λ before after. ¬ IsSameFile after.1 before.1) own file apart.from_own from_own;
}

-- the step of a loop over the files of a job
pub AreApart-next : (inputs : List Place) (own : List (OwnFile × Place)) (i : ℕ) (d : OwnFile × Place) → i < length own → AreApart inputs (take i own) → IsApartFrom (get_or own i d).1 inputs → IsApartFromOwn (get_or own i d).1 (take i own) → AreApart inputs (take (i + 1) own)
AreApart-next inputs own i d below apart from_inputs from_own =
    rw (take_more own i d below) (AreApart-push inputs (take i own) (get_or own i d) apart from_inputs from_own)

-- where such a loop finds a rival
pub IsFirstClash-at : (inputs : List Place) (own : List (OwnFile × Place)) (i : ℕ) (d : OwnFile × Place) (rival : Rival) → i < length own → AreApart inputs (take i own) → IsFirstRival inputs (take i own) (get_or own i d).1 rival → IsFirstClash inputs own (record { file = (get_or own i d).0; rival = rival })
IsFirstClash-at inputs own i d rival below apart first = record {
  index = i;
  place = (get_or own i d).1;
  at = slice_get-get_or own i d below;
  rival = first;
  before = apart;
}
