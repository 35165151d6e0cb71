-- The types of a protocol's relations and individuals, and how many tuples there are of them.
use Rattle.std.proofs.Common.{◌≡◌, ◌+◌, ◌*◌, ◌<◌, ◌++◌, ℕ, List, [], ◌∷◌, length, get_or, drop, take, map, ap, sym, ◌∙◌, subst}
use Rattle.std.specs.List.{All}
use Rattle.std.proofs.lemmas.List.{drop_more, get_or-map, take_more}
use Rattle.std.proofs.lemmas.List.Elements.{All-map}
use Rattle.dai_model.specs.Protocol as Model
use Rattle.dai_logic.specs.declared.protocol.Protocol.{Protocol}
use Rattle.dai_logic.specs.declared.protocol.RelInfo.{RelInfo}
use Rattle.dai_logic.specs.declared.protocol.IndInfo.{IndInfo}
use Rattle.dai_logic.specs.Counts.{tuple_count}
use Rattle.dai_logic.specs.Parts.{relation_of, individual_of}
use Rattle.dai_logic.specs.Protocols.{protocol_of, arguments_in}
use Rattle.dai_logic.proofs.Accepted.{is_protocol}
use Rattle.dai_logic.proofs.Strides.{product_more}
use Rattle.dai_logic.proofs.Writing.{mapped_below}

pub count_more : (slots sorts : List ℕ) (k count total : ℕ) → k < length sorts → count * tuple_count slots (drop k sorts) ≡ total → (count * get_or slots (get_or sorts k 0) 0) * tuple_count slots (drop (k + 1) sorts) ≡ total
count_more slots sorts k count total below h =
    product_more count (get_or slots (get_or sorts k 0) 0) (tuple_count slots (drop (k + 1) sorts)) total (ap (λ n. count * n) (sym (ap (tuple_count slots) (drop_more sorts k 0 below))) ∙ h)

pub relation_declared : (p : Protocol) (k : ℕ) (x : RelInfo) → k < length p.relations.items → x ≡ get_or p.relations.items k x → All (λ sort. sort < length (protocol_of p).sorts) x.args.items
relation_declared p k x below is =
    subst (λ (R : Model.Relation). All (λ sort. sort < length (protocol_of p).sorts) R.arguments) (get_or-map relation_of p.relations.items k x (relation_of x) below ∙ ap relation_of (sym is))
    ((is_protocol p).relations k (relation_of x) (mapped_below relation_of p.relations.items k below))

pub arguments_below : (p : Protocol) (k : ℕ) → k < length p.relations.items → k < length (arguments_in (protocol_of p))
arguments_below p k below = mapped_below (λ (R : Model.Relation). R.arguments) (protocol_of p).relations k (mapped_below relation_of p.relations.items k below)

pub arguments_at : (p : Protocol) (k : ℕ) (x : RelInfo) → k < length p.relations.items → x ≡ get_or p.relations.items k x → get_or (arguments_in (protocol_of p)) k [] ≡ x.args.items
arguments_at p k x below is =
    get_or-map (λ (R : Model.Relation). R.arguments) (protocol_of p).relations k (relation_of x) [] (mapped_below relation_of p.relations.items k below)
    ∙ (ap (λ (R : Model.Relation). R.arguments) (get_or-map relation_of p.relations.items k x (relation_of x) below) ∙ ap (λ (y : RelInfo). y.args.items) (sym is))

-- one more number of tuples
pub table_more : (p : Protocol) (slots so_far more : List ℕ) (k count : ℕ) (x : RelInfo) → k < length p.relations.items → x ≡ get_or p.relations.items k x → count ≡ tuple_count slots x.args.items → so_far ≡ take k (map (tuple_count slots) (arguments_in (protocol_of p))) → more ≡ so_far ++ count ∷ [] → more ≡ take (k + 1) (map (tuple_count slots) (arguments_in (protocol_of p)))
table_more p slots so_far more k count x below is counted h e =
    let all = map (tuple_count slots) (arguments_in (protocol_of p)) in
    let inside = arguments_below p k below in
    let here : get_or all k 0 ≡ count = get_or-map (tuple_count slots) (arguments_in (protocol_of p)) k [] 0 inside ∙ (ap (tuple_count slots) (arguments_at p k x below is) ∙ sym counted) in
    e ∙ (ap (λ xs. xs ++ count ∷ []) h ∙ (ap (λ n. take k all ++ n ∷ []) (sym here) ∙ sym (take_more all k 0 (mapped_below (tuple_count slots) (arguments_in (protocol_of p)) k inside))))

abbrev pub sorts_in : Model.Protocol → List ℕ
sorts_in P = map (λ (I : Model.Individual). I.sort) P.individuals

pub individual_below : (p : Protocol) (k : ℕ) → k < length p.individuals.items → k < length (sorts_in (protocol_of p))
individual_below p k below = mapped_below (λ (I : Model.Individual). I.sort) (protocol_of p).individuals k (mapped_below individual_of p.individuals.items k below)

-- one more type of an individual
pub sort_more : (p : Protocol) (so_far more : List ℕ) (k : ℕ) (x : IndInfo) → k < length p.individuals.items → x ≡ get_or p.individuals.items k x → so_far ≡ take k (sorts_in (protocol_of p)) → more ≡ so_far ++ x.sort ∷ [] → more ≡ take (k + 1) (sorts_in (protocol_of p))
sort_more p so_far more k x below is h e =
    let all = sorts_in (protocol_of p) in
    let here : get_or all k 0 ≡ x.sort =
    get_or-map (λ (I : Model.Individual). I.sort) (protocol_of p).individuals k (individual_of x) 0 (mapped_below individual_of p.individuals.items k below)
    ∙ (ap (λ (I : Model.Individual). I.sort) (get_or-map individual_of p.individuals.items k x (individual_of x) below) ∙ ap (λ (y : IndInfo). y.sort) (sym is)) in
    e ∙ (ap (λ xs. xs ++ x.sort ∷ []) h ∙ (ap (λ n. take k all ++ n ∷ []) (sym here) ∙ sym (take_more all k 0 (individual_below p k below))))

-- an individual's type is declared
pub sorts_declared : (p : Protocol) → All (λ sort. sort < length (protocol_of p).sorts) (sorts_in (protocol_of p))
sorts_declared p = All-map (λ sort. sort < length (protocol_of p).sorts) (λ (I : Model.Individual). I.sort) (protocol_of p).individuals (is_protocol p).individuals
