use Rattle.std.proofs.Common.{◌∙◌, ap, false}
use Rattle.text_calls.proofs.TableLaws.{counted}
use Rattle.text_calls.specs.Tables.{fits}
use Rattle.text_steps.specs.CollectiveLines.{collective_form_row}
use Rattle.text_steps.proofs.collective_forms.CollectiveForm.fits.Goals as goal

pub returns : goal.returns
returns c =
    c.fits.ensures ∙ ap (fits c.row.result.1) c.words_left.ensures.value
    ∙ counted (λ bytes. false) 0 (collective_form_row c.args.self).shape c.row.result.1 c.args.rest.now c.row.ensures.count_is
