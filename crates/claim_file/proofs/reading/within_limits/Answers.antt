use Rattle.claim_file.proofs.Common.{◌≡◌, ◌∙◌, ap, rules, length, fields_data, groups_of}
use Rattle.claim_file.specs.Reading.{named_data}
use Rattle.claim_file.proofs.Lawful.{claim_with_lawful, groups_given}
use Rattle.claim_file.proofs.reading.within_limits.Goals as goal

pub claim_with-requires : goal.claim_with-requires
claim_with-requires c =
    let f = fields_data c.args.fields.now in
    let named = named_data c.args.named in
    let groups = c.in_ok-groups.groups.items in
    let counted : length named.servers ≡ c.len.result = search rules in
    let listed =
    ap (λ count. groups_of count f.groups) counted
    ∙ groups_given (groups_of c.len.result f.groups) groups c.in_ok-groups.ensures.exact in
    claim_with_lawful f named groups (search rules) (search rules) listed (search rules)
