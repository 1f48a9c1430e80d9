use Rattle.text_print.proofs.calls.write_implicit.Goals as goal

pub returns-in-Put : goal.returns-in-Put
returns-in-Put g c = rw c.in-Put.is c.write.ensures

pub returns-in-Get : goal.returns-in-Get
returns-in-Get g c = rw c.in-Get.is c.write-in-Get.ensures

pub returns-in-Memset : goal.returns-in-Memset
returns-in-Memset g c = rw c.in-Memset.is c.write-in-Memset.ensures
