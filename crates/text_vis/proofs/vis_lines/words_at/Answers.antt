use Rattle.text_vis.proofs.vis_lines.words_at.Goals as goal

pub returns-in-PutStrided : goal.returns-in-PutStrided
returns-in-PutStrided c = rw c.in-PutStrided.is c.strided_at.ensures

pub returns-in-GetStrided : goal.returns-in-GetStrided
returns-in-GetStrided c = rw c.in-GetStrided.is c.strided_at-in-GetStrided.ensures

pub returns-in-PutIndexed : goal.returns-in-PutIndexed
returns-in-PutIndexed c = rw c.in-PutIndexed.is c.indexed_at.ensures

pub returns-in-GetIndexed : goal.returns-in-GetIndexed
returns-in-GetIndexed c = rw c.in-GetIndexed.is c.indexed_at-in-GetIndexed.ensures
